-- The table of rows: what is kept of each lies side by side. These are its parts, each as a list of its own: the names of the
-- rows, their granules, and their lanes. Read next: `RowsInner`.
use Rattle.std.specs.Prelude.{ℕ, List, map}
use Rattle.std.specs.Borrow.{Fml, Lends, MutBor}
use Rattle.dt_access.specs.Clash.{Bytes}
use Rattle.dt_queue.specs.declared.mark.Mark.{Mark}
use Rattle.dt_queue.specs.declared.row.Row.{Row}
use Rattle.dt_queue.specs.declared.row.Way.{Way}
use Rattle.dt_queue.specs.declared.row.Way.TheVariants as way
use Rattle.dt_queue.specs.contracts.lane.Lane as lanes
use Rattle.dt_queue.specs.contracts.row.Row as rows

-- of each row its name: a home and a key
abbrev pub row_names : List Row → List (ℕ × Bytes)
row_names table = map (λ r. r.name) table

-- of each row the number of its granule
abbrev pub granules_of : List Row → List ℕ
granules_of table = map (λ r. r.granule) table

-- what of the rows stays when their lanes change: the names and the granules
abbrev pub heads_of : List Row → List (ℕ × Bytes) × List ℕ
heads_of table = (row_names table, granules_of table)

-- of a row the lane of those that are to use it in this way
abbrev pub lane_of : Way → Row → List Mark
lane_of way.Read r = r.reads
lane_of way.Write r = r.writes

-- the row with other marks in this lane
abbrev pub with_lane : Way → Row → List Mark → Row
with_lane way.Read r marks = record r { reads = marks }
with_lane way.Write r marks = record r { writes = marks }

-- the row ends with the last marks behind the reference in this lane
abbrev pub LendsLane : Way → MutBor Row → MutBor (List Mark) → Fml
LendsLane way row lane = Lends rows.the_row lanes.the_row row lane (with_lane way row.now)

-- of each row this lane
abbrev pub lanes_of : Way → List Row → List (List Mark)
lanes_of way table = map (lane_of way) table

-- of each row the lane of those that are to read it
abbrev pub lanes_read : List Row → List (List Mark)
lanes_read table = lanes_of way.Read table

-- of each row the lane of those that are to write it
abbrev pub lanes_written : List Row → List (List Mark)
lanes_written table = lanes_of way.Write table
