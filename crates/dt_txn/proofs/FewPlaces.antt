-- What a valid transaction changes takes few places of a table: at most 16 rows and one move.
use Rattle.std.proofs.Common.{◌≡◌, ◌≤◌, ◌∙◌, ℕ, List, length, map, None, Some, ap, arith}
use Rattle.std.specs.Prelude.{Option}
use Rattle.std.proofs.lemmas.List.{length-map}
use Rattle.dt_text.specs.declared.Value.{Value}
use Rattle.dt_access.specs.Clash.{Bytes}
use Rattle.dt_access.specs.declared.Mode.{Mode}
use Rattle.dt_access.specs.declared.TxnId.{TxnId}
use Rattle.dt_proc.specs.Tree.{ProcTree}
use Rattle.dt_eval.specs.Calls.{call_meaning}
use Rattle.dt_eval.specs.Meaning.{writes_in}
use Rattle.dt_eval.specs.declared.Finish.{Finish}
use Rattle.dt_eval.specs.declared.finish.Finish.TheVariants as finish
use Rattle.dt_eval.proofs.Callers.{call_writes_few}
use Rattle.dt_table.specs.Table.{Table, places_for}
use Rattle.dt_txn.specs.declared.txn.Body.{Body}
use Rattle.dt_txn.specs.declared.txn.Body.TheVariants.{Call, Move}
use Rattle.dt_txn.specs.declared.txn.Txn.{Txn}
use Rattle.dt_txn.specs.declared.outcome.Outcome.{Outcome}
use Rattle.dt_txn.specs.Execution.{of_finish, one, reads_of, result_of, see, seen_of, stale_of, unless_stale}
use Rattle.dt_txn.specs.Transaction.{BodyFits, IsValid, uses_of}
use Rattle.dt_txn.proofs.Sight.{reads_keys}

finish_few : (f : Finish) → length (writes_in f) ≤ 16 → places_for (of_finish f).1 ≤ 17
finish_few (finish.Gave values writes) few = omega (arith, few)
finish_few (finish.Aborted cause) few = omega arith

result_few : (procs : List ProcTree) (version regions : ℕ) (id : TxnId) (body : Body) (reads : List (Bytes × Option Value)) (stale : Option Outcome)
    → BodyFits procs version regions body → map (λ r. r.0) reads ≡ map (λ u. u.0) (uses_of procs version body)
    → places_for (unless_stale stale (result_of procs id body reads)).1 ≤ 17
result_few procs version regions id body reads (Some o) fits same = omega arith
result_few procs version regions id (Call proc args) reads None fits same = finish_few (call_meaning procs proc args reads) (call_writes_few procs proc args reads fits same)
result_few procs version regions id (Move key target) reads None fits same = omega arith

pub few_places : (procs : List ProcTree) (version regions : ℕ) (txn : Txn) (t : Table) → IsValid procs version regions txn → places_for (one procs txn t).1 ≤ 17
few_places procs version regions txn t valid =
    result_few procs version regions txn.id txn.body (reads_of txn.access (see txn t)) (stale_of txn.access (see txn t)) valid.body
    (reads_keys txn.access (see txn t) (length-map txn.access (seen_of t)) ∙ ap (λ (us : List (Bytes × Mode)). map (λ u. u.0) us) valid.uses)
