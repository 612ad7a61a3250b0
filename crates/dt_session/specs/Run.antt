-- Lists of events. One learns here the world after a list, when a list is legal, and what its serial order is: the ids in
-- the order of their first execution anywhere. Running that order one by one on the opening table gives each id its
-- serial outcome, and each region its table. Read next: `Agreement`, which says that regions keep just these.
use Rattle.std.specs.Prelude.{ℕ, List, [], ◌∷◌, filter, filter_map, not, Option, Some, None, if◌then◌else◌}
use Rattle.dt_access.specs.Ids.{same_id, is_among}
use Rattle.dt_access.specs.declared.TxnId.{TxnId}
use Rattle.dt_events.specs.declared.Event.{Event}
use Rattle.dt_events.specs.declared.Event.TheVariants.{Execute}
use Rattle.dt_table.specs.Table.{Table}
use Rattle.dt_txn.specs.declared.Txn.{Txn}
use Rattle.dt_txn.specs.declared.Outcome.{Outcome}
use Rattle.dt_txn.specs.Serial.{outcomes, table_after}
use Rattle.dt_txn.specs.Replica.{done_ids}
use Rattle.dt_cluster.specs.declared.Cluster.{Cluster}
use Rattle.dt_workload.specs.declared.Workload.{Workload}
use Rattle.dt_session.specs.World.{World, opening_world, opening_table, node_at, txn_of, outcome_in}
use Rattle.dt_session.specs.Step.{IsLegal, next}

-- the world after events, from a world
abbrev pub world_from : Cluster → Workload → World → List Event → World
world_from cluster workload w [] = w
world_from cluster workload w (event ∷ events) = world_from cluster workload (next cluster workload w event) events

-- the world after events, from the opening one
abbrev pub world_after : Cluster → Workload → List Event → World
world_after cluster workload events = world_from cluster workload (opening_world cluster workload) events

-- each event is legal in the world of those before it, from a world
abbrev pub AreLegalFrom : Cluster → Workload → World → List Event → Type 0
AreLegalFrom cluster workload w [] = Unit {0}
AreLegalFrom cluster workload w (event ∷ events) = IsLegal cluster workload w event × AreLegalFrom cluster workload (next cluster workload w event) events

-- each event is legal in the world of those before it
abbrev pub AreLegal : Cluster → Workload → List Event → Type 0
AreLegal cluster workload events = AreLegalFrom cluster workload (opening_world cluster workload) events

-- the id that an event executes, if it is an execution
abbrev pub executed_id : Event → Option TxnId
executed_id (Execute region id) = Some id
executed_id event = None

-- a list of ids without this one
abbrev pub without : TxnId → List TxnId → List TxnId
without id ids = filter (λ other. not (same_id id other)) ids

-- each id once, where it stands first
abbrev pub firsts : List TxnId → List TxnId
firsts [] = []
firsts (id ∷ ids) = id ∷ without id (firsts ids)

-- the serial order: the ids in the order of their first execution in any region
abbrev pub order_of : List Event → List TxnId
order_of events = firsts (filter_map executed_id events)

-- the transactions of ids, in their order
abbrev pub txns_of : World → List TxnId → List Txn
txns_of w ids = filter_map (txn_of w) ids

-- the outcomes of running the serial order one by one on the opening table, each with its id
abbrev pub serial_outcomes : Cluster → Workload → List Event → List (TxnId × Outcome)
serial_outcomes cluster workload events =
    outcomes cluster.procs (txns_of (world_after cluster workload events) (order_of events)) (opening_table cluster)

-- the outcome of an id in the serial order, if it was executed
abbrev pub serial_outcome : Cluster → Workload → List Event → TxnId → Option Outcome
serial_outcome cluster workload events id = outcome_in (serial_outcomes cluster workload events) id

-- the ids that stand before an id in a list
abbrev pub ids_before : TxnId → List TxnId → List TxnId
ids_before id [] = []
ids_before id (other ∷ ids) = if same_id id other then [] else other ∷ ids_before id ids

-- the table at the point of the serial order where an id runs
abbrev pub table_before : Cluster → Workload → List Event → TxnId → Table
table_before cluster workload events id =
    table_after cluster.procs (txns_of (world_after cluster workload events) (ids_before id (order_of events))) (opening_table cluster)

-- the table of a region: that of running what it executed, in the serial order, on the opening table
abbrev pub region_table : Cluster → Workload → List Event → ℕ → Table
region_table cluster workload events region =
    let w = world_after cluster workload events in
    table_after cluster.procs (txns_of w (filter (is_among (done_ids (node_at w region).here)) (order_of events))) (opening_table cluster)
