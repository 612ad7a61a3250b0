-- What one transaction comes to on a table: its outcome and its effect. It is defined through what the transaction sees of
-- the rows that it uses (`see`), so that two tables that look alike there give alike results; on this stands everything
-- that says that regions agree. A transaction is stale, and changes nothing, where the unit of a key that it uses was moved
-- since it was annotated (Staleness.antt says exactly when); a call has the result of its procedure, and a move gives its
-- unit a new home. Read next Serial.antt, which runs one transaction after another.
use Rattle.std.specs.Prelude.{ℕ, List, [], ◌∷◌, map, Option, Some, None}
use Rattle.dt_access.specs.Clash.{Bytes}
use Rattle.dt_access.specs.Granules.{unit_of}
use Rattle.dt_access.specs.declared.TxnId.{TxnId}
use Rattle.dt_access.specs.declared.Access.{Access}
use Rattle.dt_text.specs.declared.Value.{Value}
use Rattle.dt_proc.specs.Tree.{ProcTree}
use Rattle.dt_eval.specs.Calls.{call_meaning}
use Rattle.dt_eval.specs.declared.Finish.{Finish}
use Rattle.dt_eval.specs.declared.finish.Finish.TheVariants as finish
use Rattle.dt_table.specs.declared.Effect.{Effect}
use Rattle.dt_table.specs.Table.{Table, value_of, counter_of, next_mover}
use Rattle.dt_txn.specs.declared.txn.Body.{Body}
use Rattle.dt_txn.specs.declared.txn.Body.TheVariants.{Call, Move}
use Rattle.dt_txn.specs.declared.txn.Txn.{Txn}
use Rattle.dt_txn.specs.declared.outcome.Seen.{Seen}
use Rattle.dt_txn.specs.declared.outcome.Outcome.{Outcome}
use Rattle.dt_txn.specs.declared.outcome.Outcome.TheVariants.{Gave, Aborted, Stale}

-- what is seen at an access entry: the unit of its key, the key's value, the number of moves of the unit, and the mover of
-- the move that follows the annotated ones
abbrev pub seen_of : Table → Access → Seen
seen_of t a = record {
  unit = unit_of t.version a.key;
  value = value_of t a.key;
  counter = counter_of t a.key;
  mover = next_mover t a.key a.counter;
}

-- what a transaction sees in a table, in the order of its access list
abbrev pub see : Txn → Table → List Seen
see txn t = map (seen_of t) txn.access

-- the effect of a transaction that changes nothing
abbrev pub no_effect : Effect
no_effect = record { writes = []; moved = None }

-- the outcome Stale at an entry that was annotated with `had` moves of this unit, which has a next mover; else what the
-- later entries give
abbrev pub stale_at : Bytes → ℕ → Option TxnId → Option Outcome → Option Outcome
stale_at unit had None later = later
stale_at unit had (Some by) later = Some (Stale unit had by)

-- the outcome Stale of the first key whose unit was moved since it was annotated, if there is one
abbrev pub stale_of : List Access → List Seen → Option Outcome
stale_of [] seen = None
stale_of (a ∷ access) [] = None
stale_of (a ∷ access) (s ∷ seen) = stale_at s.unit a.counter s.mover (stale_of access seen)

-- the rows that a transaction reads, from what it saw
abbrev pub reads_of : List Access → List Seen → List (Bytes × Option Value)
reads_of [] seen = []
reads_of (a ∷ access) [] = []
reads_of (a ∷ access) (s ∷ seen) = (a.key, s.value) ∷ reads_of access seen

-- how a call's run ends, as an outcome and an effect
abbrev pub of_finish : Finish → Outcome × Effect
of_finish (finish.Gave values writes) = (Gave values, record { writes = writes; moved = None })
of_finish (finish.Aborted cause) = (Aborted cause, no_effect)

-- what a body gives where nothing is stale: a call has its procedure's result, and a move gives its unit a new home
abbrev pub result_of : List ProcTree → TxnId → Body → List (Bytes × Option Value) → Outcome × Effect
result_of procs id (Call proc args) reads = of_finish (call_meaning procs proc args reads)
result_of procs id (Move key target) reads = (Gave [], record { writes = []; moved = Some (key, target, id) })

-- a stale outcome with no effect, if there is one, else the result
abbrev pub unless_stale : Option Outcome → Outcome × Effect → Outcome × Effect
unless_stale None result = result
unless_stale (Some stale) result = (stale, no_effect)

-- the outcome and the effect of a transaction, from what it saw: Stale and none at all where the unit of one of its keys
-- was moved since it was annotated, else those of its body by these procedures
abbrev pub execution : List ProcTree → Txn → List Seen → Outcome × Effect
execution procs txn seen = unless_stale (stale_of txn.access seen) (result_of procs txn.id txn.body (reads_of txn.access seen))

-- the outcome and the effect of a transaction on a table, by these procedures
abbrev pub one : List ProcTree → Txn → Table → Outcome × Effect
one procs txn t = execution procs txn (see txn t)
