-- What one region is: its number, the transactions that it knows, the logs as far as it received them, and what it made
-- of them. What it asked, placed, inserted, resolved and executed, with its table, stands in its `Replica`, which the
-- world's definitions use too, so that the rules mean the same in both. Read next: `Rules`, for how each rule changes it.
use Rattle.std.specs.Prelude.{◌<◌, ◌^◌, ℕ, List, [], ◌∷◌, ◌++◌, max, Option, Some, None, if◌then◌else◌}
use Rattle.std.specs.Map.{lookup}
use Rattle.dt_access.specs.Ids.{same_id}
use Rattle.dt_access.specs.declared.TxnId.{TxnId}
use Rattle.dt_events.specs.declared.Stamped.{Stamped}
use Rattle.dt_events.specs.Stamps.{last_stamp}
use Rattle.dt_sched.specs.Views.{View}
use Rattle.dt_sched.specs.Sched.{Sched}
use Rattle.dt_txn.specs.declared.txn.Txn.{Txn}
use Rattle.dt_txn.specs.declared.outcome.Outcome.{Outcome}
use Rattle.dt_txn.specs.Replica.{Replica, done_ids, view_of}

-- what one region holds
pub record RegionState : Type 0 where
  -- its number, and how many regions there are
  pub number : ℕ
  pub regions : ℕ
  -- the transactions that it submitted, in order
  pub submitted : List Txn
  -- the transactions of other regions that it got with requests and deliveries, in the order in which they came
  pub foreign : List Txn
  -- the log of each home as far as it received it; its own log whole
  pub logs : View
  -- what it asked and placed, and what it made of the logs
  pub here : Replica

-- a region, as contracts see it: what it holds, the events that it made, in order, each with its stamp, the greatest
-- stamp that it heard of from others, or 0, and its room: how many executions can be finished before memory is needed
pub record RegionView : Type 0 where
  pub state : RegionState
  pub events : List Stamped
  pub heard : ℕ
  pub room : ℕ

-- the greatest stamp that a region knows of: that of its last event, or one that it heard of; its next event gets the one
-- above
abbrev pub latest_stamp : RegionView → ℕ
latest_stamp r = max (last_stamp r.events) r.heard

-- a region has a stamp for one event more: stamps are numbers of 64 bits, of which the upper ones stay free
abbrev pub HasStamp : RegionView → Type 0
HasStamp r = latest_stamp r < 2 ^ 62

-- the transaction of an id among these, if there is one
abbrev pub find_txn : List Txn → TxnId → Option Txn
find_txn [] id = None
find_txn (txn ∷ txns) id = if same_id txn.id id then Some txn else find_txn txns id

-- the transaction of an id that a region holds, if it holds one: it submitted it, or got it from another region
abbrev pub held : RegionState → TxnId → Option Txn
held s id = find_txn (s.submitted ++ s.foreign) id

-- the outcome of an id that a region executed, if it did
abbrev pub outcome_of : RegionState → TxnId → Option Outcome
outcome_of s id = lookup (same_id id) s.here.done

-- what the scheduler of a region is seen as: what the region inserted of these logs, resolved and has done
abbrev pub sched_of : View → Replica → Sched
sched_of logs here = record { logs = view_of logs here; resolved = here.resolved; done = done_ids here }
