-- A valid transaction keeps to its keys. Of what procedures mean, only this is used elsewhere.
use Rattle.std.proofs.Common.{◌≡◌, ◌≢◌, ◌⊎◌, ◌==◌, ℕ, Bool, true, false, if◌then◌else◌, List, refl, sym, subst, inl, inr, eqb-true}
use Rattle.std.specs.Prelude.{Option}
use Rattle.dt_lists.specs.Lists.{AnyIn, AllIn}
use Rattle.dt_lists.proofs.Callers.{all_any, all_map, all_of_image, any_map, any_of_image}
use Rattle.dt_access.specs.Clash.{Bytes, is_whole}
use Rattle.dt_access.specs.Granules.{mode_of_move, unit_of}
use Rattle.dt_access.specs.declared.Mode.{Mode}
use Rattle.dt_access.specs.declared.TxnId.{TxnId}
use Rattle.dt_access.specs.declared.Mode.TheVariants.{Write, Whole}
use Rattle.dt_text.specs.declared.Value.{Value}
use Rattle.dt_proc.specs.Tree.{ProcTree}
use Rattle.dt_eval.specs.declared.Finish.{Finish}
use Rattle.dt_eval.specs.declared.finish.Finish.TheVariants.{Gave, Aborted}
use Rattle.dt_eval.specs.Meaning.{writes_in}
use Rattle.dt_eval.specs.Calls.{CallFits, call_keys, call_meaning}
use Rattle.dt_eval.proofs.Callers.{call_keys_narrow, call_writes_declared}
use Rattle.dt_txn.specs.declared.txn.Body.{Body}
use Rattle.dt_txn.specs.declared.txn.Body.TheVariants.{Call, Move}
use Rattle.dt_txn.specs.declared.txn.Txn.{Txn}
use Rattle.dt_txn.specs.Transaction.{uses_of, BodyFits, IsValid}
use Rattle.dt_txn.specs.Execution.{of_finish, result_of}
use Rattle.dt_serial.specs.Order.{Changes, KeepsToKeys}

-- what a run changes, it writes
changed_written : (version : ℕ) (f : Finish) (key : Bytes) → Changes version (of_finish f).1 key → AnyIn (λ w. w.0 ≡ key) (writes_in f)
changed_written version (Gave values writes) key (inl e) = e
changed_written version (Gave values writes) key (inr e) = absurd e
changed_written version (Aborted cause) key (inl e) = absurd e
changed_written version (Aborted cause) key (inr e) = absurd e

-- a call changes only keys that it uses in the mode for writing, whatever it reads
pub call_keeps : (procs : List ProcTree) (version number : ℕ) (args : List Value) (reads : List (Bytes × Option Value)) (key : Bytes) → CallFits procs number args
    → Changes version (of_finish (call_meaning procs number args reads)).1 key → AnyIn (λ u. (u.0 ≡ key) × (u.1 ≡ Write)) (call_keys procs number args)
call_keeps procs version number args reads key fits changes =
    let r = all_any (λ w. AnyIn (λ u. (u.0 ≡ w.0) × (u.1 ≡ Write)) (call_keys procs number args)) (λ w. w.0 ≡ key) (writes_in (call_meaning procs number args reads))
    (call_writes_declared procs number args reads fits) (changed_written version (call_meaning procs number args reads) key changes) in
    subst (λ k. AnyIn (λ u. (u.0 ≡ k) × (u.1 ≡ Write)) (call_keys procs number args)) r.3 r.2

-- by this use of a key a body may change what is seen of another one
abbrev UseChanges : ℕ → Bytes → Bytes × Mode → Type 0
UseChanges version key u = ((u.0 ≡ key) × (u.1 ≡ Write)) ⊎ ((unit_of version u.0 ≡ unit_of version key) × (u.1 ≡ mode_of_move version))

body_keeps : (procs : List ProcTree) (version regions : ℕ) (id : TxnId) (body : Body) (reads : List (Bytes × Option Value)) (key : Bytes) → BodyFits procs version regions body
    → Changes version (result_of procs id body reads).1 key → AnyIn (UseChanges version key) (uses_of procs version body)
body_keeps procs version regions id (Call proc args) reads key fits changes = any_map _ _ (call_keys procs proc args) (λ u w. inl w) (call_keeps procs version proc args reads key fits changes)
body_keeps procs version regions id (Move k target) reads key fits (inl e) = absurd e
body_keeps procs version regions id (Move k target) reads key fits (inr e) = inl (inr (e, refl))

-- a move takes a granule as a whole in version 2 alone
pub move_narrow : (version : ℕ) → version ≢ 2 → is_whole (mode_of_move version) ≡ false
move_narrow version other = by (version == 2) refl
  where
    by : (t : Bool) → (version == 2) ≡ t → is_whole (if t then Whole else Write) ≡ false
    by true e = absurd (other (eqb-true version 2 e))
    by false e = refl

body_narrow : (procs : List ProcTree) (version : ℕ) (body : Body) → AllIn (λ u. version ≢ 2 → is_whole u.1 ≡ false) (uses_of procs version body)
body_narrow procs version (Call proc args) = all_map _ _ (call_keys procs proc args) (λ u e other. e) (call_keys_narrow procs proc args)
body_narrow procs version (Move key target) = (move_narrow version, tt)

pub valid_keeps : (procs : List ProcTree) (version regions : ℕ) (x : Txn) → IsValid procs version regions x → KeepsToKeys procs version x
valid_keeps procs version regions x valid = record {
  changes = λ reads key changes.
      any_of_image (UseChanges version key) (λ a. (a.key, a.mode)) x.access
      (subst (AnyIn (UseChanges version key)) (sym valid.uses) (body_keeps procs version regions x.id x.body reads key valid.body changes));
  moves = λ key target is. (subst (BodyFits procs version regions) is valid.body).0;
  whole = all_of_image (λ u. version ≢ 2 → is_whole u.1 ≡ false) (λ a. (a.key, a.mode)) x.access
      (subst (AllIn (λ u. version ≢ 2 → is_whole u.1 ≡ false)) (sym valid.uses) (body_narrow procs version x.body));
}
