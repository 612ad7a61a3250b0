-- For the tests of rounds: a region that only submitted, placed and received so far. Whoever asks for a round has to show that
-- it may be made (`CanRound` of dt_region); a test keeps this much of its region, from which that follows. Read next: the
-- tests, in `src/`.
use Rattle.std.specs.Prelude.{◌≡◌, ◌≤◌, ℕ, List, length}
use Rattle.dt_access.specs.Clash.{Bytes}
use Rattle.dt_sched.specs.Sched.{parts_in}
use Rattle.dt_proc.specs.Tree.{ProcTree}
use Rattle.dt_table.specs.Table.{counter_of}
use Rattle.dt_region.specs.Region.{RegionView, latest_stamp}
use Rattle.dt_region.specs.Conditions.{HoldsValid}

-- the region has made n events at most, all of them submissions of calls of these procedures, and requests and deliveries of
-- such
pub record WasFed (procs : List ProcTree) (count : ℕ) (r : RegionView) : Type 0 where
  -- each transaction that it holds is valid for them
  pub holds : HoldsValid procs r.state
  -- no unit was moved
  pub unmoved : (key : Bytes) → counter_of r.state.here.table key ≡ 0
  -- it submitted one transaction an event at most, its logs have one part an event at most, and each event took one stamp
  pub submitted : length r.state.submitted ≤ count
  pub parts : parts_in r.state.logs ≤ count
  pub stamp : latest_stamp r ≤ count
