-- What all regions agree on after a list of events: outcomes, tables, the order of an attempt that was answered before
-- another was submitted, the causes of failures, and, once they have drained the same logs, all rows. `Agree` is what the
-- program promises of each list that it reports; that each legal list has it is the law `agreement`. Read next: src/laws.rt
-- of dt_agreement; docs/PROOF.md says why it is so.
use Rattle.std.specs.Prelude.{◌≡◌, ◌<◌, ℕ, List, [], ◌∷◌, ◌++◌, Option, Some, None}
use Rattle.dt_lists.specs.Lists.{AnyIn, Has}
use Rattle.dt_access.specs.Clash.{Bytes}
use Rattle.dt_access.specs.Granules.{unit_of}
use Rattle.dt_access.specs.Ids.{StandsBefore}
use Rattle.dt_access.specs.declared.TxnId.{TxnId}
use Rattle.dt_events.specs.declared.Event.{Event}
use Rattle.dt_events.specs.declared.Event.TheVariants.{Submit, Answer}
use Rattle.dt_table.specs.Table.{next_mover}
use Rattle.dt_txn.specs.declared.Txn.{Txn}
use Rattle.dt_txn.specs.declared.txn.Body.TheVariants.{Move}
use Rattle.dt_txn.specs.declared.Outcome.{Outcome}
use Rattle.dt_txn.specs.declared.outcome.Outcome.TheVariants.{Gave, Aborted, Stale}
use Rattle.dt_txn.specs.Execution.{see, reads_of, result_of}
use Rattle.dt_txn.specs.Replica.{IsDrained}
use Rattle.dt_cluster.specs.declared.Cluster.{Cluster}
use Rattle.dt_workload.specs.declared.Workload.{Workload}
use Rattle.dt_workload.specs.declared.Session.{Session}
use Rattle.dt_session.specs.World.{World, Place, node_at, txn_of, received_of, received_logs, session_at}
use Rattle.dt_session.specs.Step.{upcoming_id}
use Rattle.dt_session.specs.Run.{world_after, order_of, serial_outcome, table_before, region_table}

-- the session that this looks up waits for the id
abbrev pub WaitsFor : Option (Session × Place) → TxnId → Type 0
WaitsFor None id = ⊥
WaitsFor (Some (session, place)) id = place.waits ≡ Some id

-- the id that a session of a region waits for after these events
abbrev pub IsAwaited : Cluster → Workload → List Event → ℕ → Bytes → TxnId → Type 0
IsAwaited cluster workload events region session id =
    WaitsFor (session_at workload.sessions (world_after cluster workload events).places region session) id

-- why an attempt that failed did so: by its procedure, run at its place in the serial order; or by a named move: the unit
-- that the outcome names is that of a key of the attempt, and the move stands earlier, is of that unit, succeeded, and follows
-- the moves of the unit that the attempt was annotated with
abbrev pub HasCause : Cluster → Workload → List Event → TxnId → Outcome → Type 0
HasCause cluster workload events id (Gave values) = Unit {0}
HasCause cluster workload events id (Aborted cause) =
    (txn : Txn) × (txn_of (world_after cluster workload events) id ≡ Some txn)
    × ((result_of cluster.procs id txn.body (reads_of txn.access (see txn (table_before cluster workload events id)))).0 ≡ Aborted cause)
HasCause cluster workload events id (Stale unit had by) =
    (txn mover : Txn) × (target : ℕ) × (txn_of (world_after cluster workload events) id ≡ Some txn)
    × (txn_of (world_after cluster workload events) by ≡ Some mover)
    × AnyIn (λ a. (unit_of cluster.version a.key ≡ unit) × (a.counter ≡ had)) txn.access
    × (mover.body ≡ Move unit target)
    × StandsBefore (order_of events) by id
    × (serial_outcome cluster workload events by ≡ Some (Gave []))
    × (next_mover (table_before cluster workload events id) unit had ≡ Some by)

-- two regions have received the same amount of every log
abbrev pub ReceivedAlike : World → ℕ → ℕ → Type 0
ReceivedAlike w region other = (home : ℕ) → received_of w region home ≡ received_of w other home

-- all regions agree on what happened in these events
pub record Agree (cluster : Cluster) (workload : Workload) (events : List Event) : Type 0 where
  -- an outcome that a region keeps is that of the serial order
  pub outcomes : (region : ℕ) (id : TxnId) (outcome : Outcome) → region < cluster.regions →
      Has (node_at (world_after cluster workload events) region).here.done (id, outcome) →
      serial_outcome cluster workload events id ≡ Some outcome
  -- a region's rows are those of running what it executed, in the serial order
  pub tables : (region : ℕ) → region < cluster.regions →
      (node_at (world_after cluster workload events) region).here.table ≡ region_table cluster workload events region
  -- an attempt that was answered before another was submitted stands earlier, if the other was executed
  pub real_time : (first : List Event) (region : ℕ) (session : Bytes) (middle : List Event) (other : ℕ) (name : Bytes) (last : List Event) (a : TxnId) →
      events ≡ first ++ Answer region session ∷ middle ++ Submit other name ∷ last →
      IsAwaited cluster workload first region session a →
      let b = upcoming_id (world_after cluster workload (first ++ Answer region session ∷ middle)) other in
      Has (order_of events) b → StandsBefore (order_of events) a b
  -- an attempt fails only by its procedure or a named move
  pub causes : (region : ℕ) (id : TxnId) (outcome : Outcome) → region < cluster.regions →
      Has (node_at (world_after cluster workload events) region).here.done (id, outcome) →
      HasCause cluster workload events id outcome
  -- regions that are drained and received the same logs have the same rows
  pub drained : (region other : ℕ) → region < cluster.regions → other < cluster.regions →
      let w = world_after cluster workload events in
      IsDrained (received_logs w region) (node_at w region).here → IsDrained (received_logs w other) (node_at w other).here →
      ReceivedAlike w region other →
      (node_at w region).here.table ≡ (node_at w other).here.table
