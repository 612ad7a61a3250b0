-- What a round makes of a region: insertions, resolutions and executions (rules 4, 5 and 6), each legal after those before
-- it, and nothing else (`Continues`). These three rules look at the region's own fields alone, so a region may go on so
-- whatever others do. One also learns when a round may be made (`CanRound`). That nothing is left after a round is
-- `IsDrained` of `Replica`, in dt_txn. Read next: src/rounds.rt, the trait.
use Rattle.std.specs.Prelude.{◌≡◌, ◌<◌, ◌+◌, ◌^◌, List, [], ◌∷◌, ◌++◌, Option}
use Rattle.dt_access.specs.Clash.{Bytes}
use Rattle.dt_access.specs.declared.TxnId.{TxnId}
use Rattle.dt_events.specs.declared.Event.{Event}
use Rattle.dt_events.specs.Stamps.{stamped_from}
use Rattle.dt_sched.specs.Sched.{parts_in}
use Rattle.dt_proc.specs.Tree.{ProcTree}
use Rattle.dt_table.specs.Table.{counter_of}
use Rattle.dt_txn.specs.declared.txn.Txn.{Txn}
use Rattle.dt_txn.specs.Replica.{Replica, IsContinuation, stepped}
use Rattle.dt_region.specs.Region.{RegionView, held, latest_stamp}
use Rattle.dt_region.specs.Conditions.{HoldsValid}

-- a replica after steps of its region, one after another
abbrev pub after_steps : List ProcTree → (TxnId → Option Txn) → Replica → List Event → Replica
after_steps procs txn_of here [] = here
after_steps procs txn_of here (event ∷ events) = after_steps procs txn_of (stepped procs txn_of here event) events

-- the second region is the first one after steps of its own
pub record Continues (procs : List ProcTree) (before after : RegionView) : Type 0 where
  -- the steps, each of which it may make after those before it
  pub events : List Event
  pub legal : IsContinuation procs (held before.state) before.state.number before.state.logs before.state.here events
  -- what it holds is what they make of it
  pub state : after.state ≡ record before.state { here = after_steps procs (held before.state) before.state.here events }
  -- it keeps them after what it kept, under consecutive stamps above all that it knew of
  pub kept : after.events ≡ before.events ++ stamped_from (latest_stamp before + 1) events
  pub heard : after.heard ≡ before.heard

-- a region may make a round, by these procedures
pub record CanRound (procs : List ProcTree) (r : RegionView) : Type 0 where
  -- each transaction that it holds is valid for them
  pub holds : HoldsValid procs r.state
  -- each unit has a place left for a move by each part in its logs: the moves of a unit are counted by 32 bits
  pub moves : (key : Bytes) → counter_of r.state.here.table key + parts_in r.state.logs < 2 ^ 32
  -- stamps are left for all steps that there can be
  pub stamps : latest_stamp r < 2 ^ 61
