-- A round on its way: what holds between two steps of it, whoever makes them. A round that is shared by threads stands on
-- this, and so does the one on the calling thread: each step keeps it, and where nothing is left to do it is the promise
-- of a round. Read `Rounds` before, for that promise.
use Rattle.std.specs.Prelude.{◌≡◌, ◌≤◌, ◌+◌, List, length}
use Rattle.dt_access.specs.Clash.{Bytes}
use Rattle.dt_proc.specs.Tree.{ProcTree}
use Rattle.dt_table.specs.Table.{counter_of}
use Rattle.dt_region.specs.Region.{RegionView, latest_stamp}
use Rattle.dt_region.specs.Conditions.{HoldsValid}
use Rattle.dt_region.specs.Sound.{IsSoundRegion}
use Rattle.dt_region.specs.Rounds.{CanRound, Continues}
use Rattle.dt_region.specs.StepsInner.{steps_of}

-- a round that began with the first region has come to the second
pub record IsUnderway (procs : List ProcTree) (entry now : RegionView) : Type 0 where
  pub began : CanRound procs entry
  pub continues : Continues procs entry now
  pub sound : IsSoundRegion now.state
  pub holds : HoldsValid procs now.state
  -- a stamp for each step, and a move of a unit for each execution at most
  pub many : latest_stamp now ≡ latest_stamp entry + length continues.events
  pub counted : steps_of now.state.here ≡ steps_of entry.state.here + length continues.events
  pub moves : (key : Bytes) → counter_of now.state.here.table key + length entry.state.here.done ≤ counter_of entry.state.here.table key + length now.state.here.done

-- some round has come to this region
pub record IsOnWay (procs : List ProcTree) (now : RegionView) : Type 0 where
  pub entry : RegionView
  pub underway : IsUnderway procs entry now
