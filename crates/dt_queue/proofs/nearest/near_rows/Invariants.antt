use Rattle.std.proofs.Common.{◌≡◌, ◌++◌, ℕ, List, length}
use Rattle.dt_queue.specs.TableInner.{lanes_read, lanes_written}
use Rattle.dt_queue.specs.ListedInner.{listed_left}
use Rattle.dt_queue.proofs.RowsNear.{AreGathered, IsNearIn}
use Rattle.dt_queue.proofs.nearest.near_rows.Given as goal

-- the rows that are done with those that are left are all rows
abbrev pub invariant-loop-row : goal.invariant-loop-row
invariant-loop-row l = (done : List ℕ) × (done ++ listed_left l.rows ≡ listed_left l.initial.rows)
    × AreGathered (IsNearIn (lanes_read l.table) (lanes_written l.table) l.low l.high) done l.marks.items

abbrev pub decreases-loop-row : goal.decreases-loop-row
decreases-loop-row l = length (listed_left l.rows)
