-- What each rule does to one region, and how each call of a region is answered. The rules are those of a world of regions
-- (rules 1 and 2 by the words of `Replica`, rules 4 to 6 by `stepped`): here they stand over the region's own fields, so
-- that a region can be stepped by itself. Read `Region` before. Read next: `Conditions`, for when a call may be made, and
-- `Sound`, for what holds of every region.
use Rattle.std.specs.Prelude.{◌≡◌, ◌≢◌, ◌<◌, ◌≤◌, ◌+◌, ◌-◌, ℕ, List, [], ◌∷◌, ◌++◌, map, length, drop, set, replicate, is_some, if◌then◌else◌, Bool, true, false, Result, Ok, Err}
use Rattle.dt_text.specs.declared.NoMemory.{NoMemory}
use Rattle.dt_access.specs.declared.TxnId.{TxnId}
use Rattle.dt_access.specs.declared.Part.{Part}
use Rattle.dt_log.specs.declared.Taken.{Taken}
use Rattle.dt_log.specs.declared.Taken.TheVariants.{New, Old, Gap}
use Rattle.dt_events.specs.declared.Event.{Event}
use Rattle.dt_events.specs.declared.Event.TheVariants.{Submit, Append, Deliver, Execute, Answer}
use Rattle.dt_sched.specs.Views.{log_at}
use Rattle.dt_sched.specs.Sched.{with_part}
use Rattle.dt_proc.specs.Tree.{ProcTree}
use Rattle.dt_table.specs.Table.{Table}
use Rattle.dt_txn.specs.declared.txn.Body.{Body}
use Rattle.dt_txn.specs.declared.txn.Txn.{Txn}
use Rattle.dt_txn.specs.declared.txn.Entry.{Entry}
use Rattle.dt_txn.specs.Transaction.{part_of}
use Rattle.dt_txn.specs.Replica.{MayStep, stepped, opening_replica, next_id, submission_for, after_asking, taken_from, after_taking}
use Rattle.dt_region.specs.Region.{RegionState, RegionView, find_txn, held, latest_stamp}

-- a region before anything happens, in a cluster of n regions, with this table
abbrev pub opening_state : ℕ → ℕ → Table → RegionState
opening_state number regions table = record {
  number = number;
  regions = regions;
  submitted = [];
  foreign = [];
  logs = replicate regions [];
  here = opening_replica regions table;
}

-- the id of a region's next submission
abbrev pub id_for : RegionState → TxnId
id_for s = next_id s.number (length s.submitted)

-- what a region submits for a body of this rank: the transaction of its next id, annotated by its own table
abbrev pub txn_for : List ProcTree → RegionState → ℕ → Body → Txn
txn_for procs s rank body = submission_for procs s.number (length s.submitted) s.here rank body

-- the region after it submitted a transaction: each home of it is asked for its part
abbrev pub with_submission : RegionState → Txn → RegionState
with_submission s txn = record s { submitted = s.submitted ++ txn ∷ []; here = after_asking s.here txn }

-- the region after it submitted a body of this rank
abbrev pub after_submit : List ProcTree → RegionState → ℕ → Body → RegionState
after_submit procs s rank body = with_submission s (txn_for procs s rank body)

-- what a region that submitted the ones has of others after it got one more transaction: it keeps it, unless it holds it
-- already
abbrev pub keep : List Txn → List Txn → Txn → List Txn
keep submitted foreign txn = if is_some (find_txn (submitted ++ foreign) txn.id) then foreign else foreign ++ txn ∷ []

-- what such a region has of others after it got several transactions, one after another
abbrev pub keep_all : List Txn → List Txn → List Txn → List Txn
keep_all submitted foreign [] = foreign
keep_all submitted foreign (txn ∷ txns) = keep_all submitted (keep submitted foreign txn) txns

-- the region after it got a transaction
abbrev pub hold : RegionState → Txn → RegionState
hold s txn = record s { foreign = keep s.submitted s.foreign txn }

-- the region after it got transactions, one after another
abbrev pub hold_all : RegionState → List Txn → RegionState
hold_all s txns = record s { foreign = keep_all s.submitted s.foreign txns }

-- the region after it placed a transaction's part at the end of its own log, as the next request of `source`
abbrev pub after_append : RegionState → ℕ → Txn → RegionState
after_append s source txn = record (hold s txn) {
  logs = with_part s.logs (part_of txn s.number);
  here = after_taking s.here source;
}

-- of entries from place `first` on, those past the end of a log
abbrev pub past_end : {A : Type 0} → List Part → ℕ → List A → List A
past_end log first entries = drop (length log - first) entries

-- a log after entries from place `first` on were taken, where there was no gap before them
abbrev pub with_entries : List Part → ℕ → List Entry → List Part
with_entries log first entries = log ++ map (λ e. e.part) (past_end log first entries)

-- the region after a delivery of entries of a home's log, from place `first` on: it has those past the end of what it
-- had of that log, and their transactions
abbrev pub after_deliver : RegionState → ℕ → ℕ → List Entry → RegionState
after_deliver s home first entries = record (hold_all s (map (λ e. e.txn) (past_end (log_at s.logs home) first entries))) {
  logs = set s.logs home (with_entries (log_at s.logs home) first entries);
}

-- whether a region may insert, resolve or execute so, by the logs as far as it received them
abbrev pub MayMake : RegionState → Event → Type 0
MayMake s event = MayStep s.logs s.here event

-- the region after one of these steps, by these procedures
abbrev pub after_making : List ProcTree → RegionState → Event → RegionState
after_making procs s event = record s { here = stepped procs (held s) s.here event }

-- From here on: how each call is answered, and what the region is after it, its events with it. After `NoMemory` it is
-- always as before.

-- the region in its new state, with one event more, whose stamp is one above all that it knows of; its room stays
abbrev pub with_event : RegionView → RegionState → Event → RegionView
with_event r state event = record {
  state = state;
  events = r.events ++ record { stamp = latest_stamp r + 1; event = event } ∷ [];
  heard = r.heard;
  room = r.room;
}

-- a submission answers the id that the transaction got, which is the next one of the region
abbrev pub MakesSubmit : List ProcTree → RegionView → List ℕ → ℕ → Body → Result TxnId NoMemory → RegionView → Type 0
MakesSubmit procs r session rank body (Ok id) after =
    (id ≡ id_for r.state) × (after ≡ with_event r (after_submit procs r.state rank body) (Submit r.state.number session))
MakesSubmit procs r session rank body (Err e) after = after ≡ r

-- a request is placed exactly where it is the next one of its source, and nothing changes otherwise
abbrev pub MakesAppend : RegionView → ℕ → ℕ → Txn → Result Bool NoMemory → RegionView → Type 0
MakesAppend r source number txn (Ok true) after =
    (number ≡ taken_from r.state.here source)
    × (after ≡ with_event r (after_append r.state source txn) (Append r.state.number source number))
MakesAppend r source number txn (Ok false) after = (number ≢ taken_from r.state.here source) × (after ≡ r)
MakesAppend r source number txn (Err e) after = after ≡ r

-- A delivery begins at place `begin` of a home's log, and given of it are the entries from place `first` on. Nothing is
-- taken across a gap, and old entries change nothing; otherwise the last n of the entries, those past the log's end, are
-- new, and the event goes from the place where the delivery begins to the new end of the log.
abbrev pub MakesDelivery : RegionView → ℕ → ℕ → ℕ → List Entry → Result Taken NoMemory → RegionView → Type 0
MakesDelivery r home begin first entries (Ok Gap) after = (length (log_at r.state.logs home) < first) × (after ≡ r)
MakesDelivery r home begin first entries (Ok Old) after =
    (first ≤ length (log_at r.state.logs home)) × (first + length entries ≤ length (log_at r.state.logs home)) × (after ≡ r)
MakesDelivery r home begin first entries (Ok (New n)) after =
    (first ≤ length (log_at r.state.logs home)) × (length (log_at r.state.logs home) < first + length entries)
    × (length (log_at r.state.logs home) + n ≡ first + length entries)
    × (after ≡ with_event r (after_deliver r.state home first entries) (Deliver r.state.number home begin (first + length entries)))
MakesDelivery r home begin first entries (Err e) after = after ≡ r

-- a step of its own (insert, resolve, execute) is made exactly where it may be made, and nothing changes otherwise
abbrev pub MakesStep : List ProcTree → RegionView → Event → Result Bool NoMemory → RegionView → Type 0
MakesStep procs r event (Ok true) after = MayMake r.state event × (after ≡ with_event r (after_making procs r.state event) event)
MakesStep procs r event (Ok false) after = ¬ (MayMake r.state event) × (after ≡ r)
MakesStep procs r event (Err e) after = after ≡ r

-- to finish an execution makes the step, and takes one unit of room
abbrev pub after_finishing : List ProcTree → RegionView → TxnId → RegionView
after_finishing procs r id = record (with_event r (after_making procs r.state (Execute r.state.number id)) (Execute r.state.number id)) { room = r.room - 1 }

-- an answer changes nothing but that its event is kept
abbrev pub MakesAnswer : RegionView → List ℕ → Result (Unit {0}) NoMemory → RegionView → Type 0
MakesAnswer r session (Ok u) after = after ≡ with_event r r.state (Answer r.state.number session)
MakesAnswer r session (Err e) after = after ≡ r
