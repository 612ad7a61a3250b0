-- What one region keeps for itself, and the effects of its steps on it: what rules 1 and 2 do to a region's requests, and
-- what rules 4 to 6 do to what it made of the logs. A region (`dt_region`) and a world of regions (`dt_session`) both
-- stand on these words, so that they mean the same. Read next: `Rules` of dt_region for one region, or `Step` of
-- dt_session for all.
use Rattle.std.specs.Prelude.{◌≡◌, ◌<◌, ◌+◌, ℕ, List, [], ◌∷◌, ◌++◌, take, map, set, slice_index, length, replicate, Option, Some, None}
use Rattle.dt_access.specs.declared.TxnId.{TxnId}
use Rattle.dt_events.specs.declared.Event.{Event}
use Rattle.dt_events.specs.declared.Event.TheVariants.{Insert, Resolve, Execute}
use Rattle.dt_events.specs.Events.{region_of}
use Rattle.dt_sched.specs.Views.{View, log_at}
use Rattle.dt_sched.specs.Decide.{IsExecutable, IsResolvable}
use Rattle.dt_proc.specs.Tree.{ProcTree}
use Rattle.dt_table.specs.Table.{Table}
use Rattle.dt_txn.specs.declared.txn.Txn.{Txn}
use Rattle.dt_txn.specs.declared.outcome.Outcome.{Outcome}
use Rattle.dt_txn.specs.declared.txn.Body.{Body}
use Rattle.dt_txn.specs.Transaction.{annotate, homes_of}
use Rattle.dt_txn.specs.HomesAsked.{ask}
use Rattle.dt_txn.specs.Execution.{one}
use Rattle.dt_txn.specs.Serial.{after}

-- what one region asked, what it placed, and what it made of the logs that it received
pub record Replica : Type 0 where
  -- of each home, the ids that it asked it to place, in order
  pub asked : List (List TxnId)
  -- of each region, how many of that region's requests it has placed in its own log
  pub taken : List ℕ
  -- how many parts of each home's log it inserted
  pub inserted : List ℕ
  -- the deadlocked groups that it resolved, oldest first
  pub resolved : List (List TxnId)
  -- what it executed, in order, each with its outcome
  pub done : List (TxnId × Outcome)
  pub table : Table

-- a region with this table before anything happens, in a cluster of n
abbrev pub opening_replica : ℕ → Table → Replica
opening_replica regions table = record {
  asked = replicate regions [];
  taken = replicate regions 0;
  inserted = replicate regions 0;
  resolved = [];
  done = [];
  table = table;
}

-- the id of a region's next submission, after n of them
abbrev pub next_id : ℕ → ℕ → TxnId
next_id region submitted = record { seq = submitted + 1; region = region }

-- what a region submits for a body of this rank: the transaction of its next id, annotated by its own table
abbrev pub submission_for : List ProcTree → ℕ → ℕ → Replica → ℕ → Body → Txn
submission_for procs region submitted here rank body = annotate procs (next_id region submitted) rank body here.table

-- the region after it submitted a transaction: each home of it is asked for its part
abbrev pub after_asking : Replica → Txn → Replica
after_asking here txn = record here { asked = ask (homes_of txn) txn.id here.asked }

-- how many requests of a region were placed here
abbrev pub taken_from : Replica → ℕ → ℕ
taken_from here source = slice_index here.taken source

-- the region after it placed one more request of a region
abbrev pub after_taking : Replica → ℕ → Replica
after_taking here source = record here { taken = set here.taken source (taken_from here source + 1) }

-- the ids that a region has executed, in order
abbrev pub done_ids : Replica → List TxnId
done_ids here = map (λ d. d.0) here.done

-- of each log the front of the given length; where no length is given, nothing
abbrev pub fronts : List ℕ → View → View
fronts lengths [] = []
fronts [] (log ∷ logs) = [] ∷ fronts [] logs
fronts (n ∷ lengths) (log ∷ logs) = take n log ∷ fronts lengths logs

-- the view of a region: what it inserted of the logs that it received
abbrev pub view_of : View → Replica → View
view_of received here = fronts here.inserted received

-- which of its own three kinds of steps a region may make
abbrev pub MayStep : View → Replica → Event → Type 0
-- more of that log was received than is inserted
MayStep received here (Insert region home) = slice_index here.inserted home < length (log_at received home)
-- the ids are a group that is resolvable here
MayStep received here (Resolve region ids) = IsResolvable (view_of received here) here.resolved (done_ids here) ids
-- the transaction is executable here
MayStep received here (Execute region id) = IsExecutable (view_of received here) here.resolved (done_ids here) id
MayStep received here event = ⊥

-- the region after executing a transaction, by these procedures
abbrev pub executed : List ProcTree → Replica → Option Txn → Replica
executed procs here None = here
executed procs here (Some txn) = record here {
  done = here.done ++ (txn.id, (one procs txn here.table).0) ∷ [];
  table = after procs txn here.table;
}

-- the region after one of these steps; `txn_of` finds a transaction by its id
abbrev pub stepped : List ProcTree → (TxnId → Option Txn) → Replica → Event → Replica
stepped procs txn_of here (Insert region home) = record here { inserted = set here.inserted home (slice_index here.inserted home + 1) }
stepped procs txn_of here (Resolve region ids) = record here { resolved = here.resolved ++ ids ∷ [] }
stepped procs txn_of here (Execute region id) = executed procs here (txn_of id)
stepped procs txn_of here event = here

-- all that was received of these logs is inserted
abbrev pub HasInsertedAll : View → Replica → Type 0
HasInsertedAll received here = (home : ℕ) → slice_index here.inserted home ≡ length (log_at received home)

-- the region has inserted all that it received, and may neither execute nor resolve anything
pub record IsDrained (received : View) (here : Replica) : Type 0 where
  pub inserted : HasInsertedAll received here
  pub executed : (id : TxnId) → ¬ (IsExecutable (view_of received here) here.resolved (done_ids here) id)
  pub resolved : (ids : List TxnId) → ¬ (IsResolvable (view_of received here) here.resolved (done_ids here) ids)

-- the events are steps of region `region`, each of which it may make, by these procedures, after those before it
abbrev pub IsContinuation : List ProcTree → (TxnId → Option Txn) → ℕ → View → Replica → List Event → Type 0
IsContinuation procs txn_of region received here [] = Unit {0}
IsContinuation procs txn_of region received here (event ∷ events) =
    (region_of event ≡ region) × MayStep received here event × IsContinuation procs txn_of region received (stepped procs txn_of here event) events
