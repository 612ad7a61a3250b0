-- A body that fits can run, and what it moves is a unit.
use Rattle.std.proofs.Common.{ℕ, List, Option, None, Some}
use Rattle.dt_access.specs.Clash.{Bytes}
use Rattle.dt_proc.specs.Tree.{ProcTree}
use Rattle.dt_access.specs.declared.TxnId.{TxnId}
use Rattle.dt_text.specs.declared.Value.{Value}
use Rattle.dt_table.specs.Table.{Table, MovesUnit}
use Rattle.dt_eval.specs.Calls.{call_meaning}
use Rattle.dt_eval.specs.declared.Finish.{Finish}
use Rattle.dt_eval.specs.declared.finish.Finish.TheVariants as finish
use Rattle.dt_txn.specs.declared.txn.Body.{Body}
use Rattle.dt_txn.specs.declared.txn.Body.TheVariants.{Call, Move}
use Rattle.dt_txn.specs.declared.txn.Txn.{Txn}
use Rattle.dt_txn.specs.declared.outcome.Outcome.{Outcome}
use Rattle.dt_txn.specs.Execution.{of_finish, one, reads_of, result_of, see, stale_of, unless_stale}
use Rattle.dt_txn.specs.Transaction.{BodyFits, CanRun, IsValid}

pub can_run : (procs : List ProcTree) (version regions : ℕ) (body : Body) → BodyFits procs version regions body → CanRun procs body
can_run procs version regions (Call proc args) fits = fits
can_run procs version regions (Move key target) fits = tt

-- what a body moves is a unit, where the body fits
finish_moves : (version : ℕ) (f : Finish) → MovesUnit version (of_finish f).1.moved
finish_moves version (finish.Gave values writes) = tt
finish_moves version (finish.Aborted cause) = tt

result_moves : (procs : List ProcTree) (version regions : ℕ) (id : TxnId) (body : Body) (reads : List (Bytes × Option Value)) (stale : Option Outcome)
    → BodyFits procs version regions body → MovesUnit version (unless_stale stale (result_of procs id body reads)).1.moved
result_moves procs version regions id body reads (Some o) fits = tt
result_moves procs version regions id (Call proc args) reads None fits = finish_moves version (call_meaning procs proc args reads)
result_moves procs version regions id (Move key target) reads None fits = fits.0

-- so what a valid transaction moves is a unit of its version
pub moves_unit : (procs : List ProcTree) (version regions : ℕ) (txn : Txn) (t : Table) → IsValid procs version regions txn → MovesUnit version (one procs txn t).1.moved
moves_unit procs version regions txn t valid =
    result_moves procs version regions txn.id txn.body (reads_of txn.access (see txn t)) (stale_of txn.access (see txn t)) valid.body
