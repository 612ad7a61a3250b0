-- Transactions of the load keep what the accounts have together: a transfer by cases, whether its source has enough and which of
-- the two keys is less, or that they are one; a move, since it writes nothing; and any that is stale.
use Rattle.std.proofs.Common.{◌≡◌, ℕ, ◌+◌, ◌-◌, ◌%◌, ◌<◌, ◌≤◌, ◌==◌, Bool, true, false, cond}
use Rattle.std.proofs.Common.{List, [], ◌∷◌, map, Option, Some, None, refl, sym, ap, ap₂, ◌∙◌, inl, inr, subst, arith}
use Rattle.std.specs.Ordering.{nat_cmp}
use Rattle.std.specs.Cmp.Lexicographic.{slice_cmp, bytes_decides}
use Rattle.std.specs.declared.cmp.Ordering.{Ordering}
use Rattle.std.specs.declared.cmp.Ordering.TheVariants.{Less, Equal, Greater}
use Rattle.std.proofs.lemmas.Bool.{cases_lt}
use Rattle.dt_lists.specs.Lists.{AllIn}
use Rattle.dt_text.specs.Texts.{Bytes}
use Rattle.dt_text.specs.declared.Value.{Value}
use Rattle.dt_access.specs.Clash.{same_key}
use Rattle.dt_access.specs.declared.Access.{Access}
use Rattle.dt_access.specs.declared.Mode.{Mode}
use Rattle.dt_access.specs.declared.TxnId.{TxnId}
use Rattle.dt_access.proofs.Callers.{key_before_flip, same_key_after, same_key_before, same_key_equal}
use Rattle.dt_proc.specs.Builtin.{builtin_procs, xfer}
use Rattle.dt_eval.specs.declared.Finish.{Finish}
use Rattle.dt_eval.specs.Meaning.{keys_of, meaning}
use Rattle.dt_table.specs.declared.Effect.{Effect}
use Rattle.dt_table.specs.Table.{Table, apply, value_of}
use Rattle.dt_txn.specs.declared.txn.Body.{Body}
use Rattle.dt_txn.specs.declared.Txn.{Txn}
use Rattle.dt_txn.specs.declared.Outcome.{Outcome}
use Rattle.dt_txn.specs.declared.outcome.Seen.{Seen}
use Rattle.dt_txn.specs.Execution.{of_finish, one, reads_of, result_of, see, seen_of, stale_at, stale_of, unless_stale}
use Rattle.dt_txn.specs.Transaction.{used_of, uses_of}
use Rattle.dt_txn.specs.Serial.{after, outcomes}
use Rattle.dt_session.specs.Step.{body_of}
use Rattle.dt_workload.specs.declared.workload.Wanted.TheVariants as wanted
use Rattle.dt_gen.specs.Load.{account, transfer_call, wanted_by}
use Rattle.dt_gen.specs.Balances.{HoldsAccounts, balance}
use Rattle.dt_gen.specs.Laws.{IsLoadOutcome, IsOfLoad, LoadKeepsTotal}
use Rattle.dt_gen.proofs.AccountTotals.{holding, holds_after, holds_after_two, within_total}
use Rattle.dt_gen.proofs.TransferMeaning as transfer

-- what a transaction reads are the values of the rows that it uses
reads_at : (t : Table) (access : List Access) → reads_of access (map (seen_of t) access) ≡ map (λ u. (u.0, value_of t u.0)) (map used_of access)
reads_at t [] = refl
reads_at t (a ∷ access) = ap (λ (reads : List (Bytes × Option Value)). (a.key, value_of t a.key) ∷ reads) (reads_at t access)

-- an outcome and an effect on a table, after which the accounts have together what they had
abbrev GoesWell : Table → Outcome × Effect → Type 0
GoesWell t result = IsLoadOutcome result.0 × HoldsAccounts 100000 (apply result.1 t)

-- the values of rows in a table
abbrev read_in : Table → List (Bytes × Mode) → List (Bytes × Option Value)
read_in t uses = map (λ u. (u.0, value_of t u.0)) uses

-- a call whose end is known
ended_by : (t : Table) (f g : Finish) → f ≡ g → GoesWell t (of_finish g) → GoesWell t (of_finish f)
ended_by t f g e well = subst (λ (h : Finish). GoesWell t (of_finish h)) (sym e) well

-- how a transfer ends on one row, or on two
abbrev on_one : Bytes → ℕ → Option Value → Finish
on_one key amount had = meaning xfer (transfer.transfer_args key key amount) ((key, had) ∷ [])

abbrev source_read_first : Bytes → Bytes → ℕ → Option Value → Option Value → Finish
source_read_first source target amount had held = meaning xfer (transfer.transfer_args source target amount) ((source, had) ∷ (target, held) ∷ [])

abbrev target_read_first : Bytes → Bytes → ℕ → Option Value → Option Value → Finish
target_read_first source target amount had held = meaning xfer (transfer.transfer_args source target amount) ((target, held) ∷ (source, had) ∷ [])

-- a transfer between accounts
module _ (t : Table) (p q amount : ℕ) (hp : p < 100) (hq : q < 100) (few : amount ≤ 50) (holds : HoldsAccounts 100000 t) where
  -- where both are one, the row is written as it was
  to_itself : GoesWell t (of_finish (on_one (account p) amount (value_of t (account p))))
  to_itself =
      ended_by t _ (on_one (account p) amount (holding (balance t p))) (ap (on_one (account p) amount) (holds.accounts p hp))
      (elim (cases_lt (balance t p) amount) [
        | inl less ↦ ended_by t _ _ (transfer.refused_alone (account p) amount (balance t p) less) (refl, holds)
        | inr enough ↦
            let within = within_total 100000 t p hp holds in
            ended_by t _ _ (transfer.done_alone (account p) amount (balance t p) enough (omega arith)) (tt, holds_after 100000 100000 t p (balance t p) hp holds refl)
      ])

  module _ (apart : ¬ (account q ≡ account p)) (there : same_key (account p) (account q) ≡ false) (back : same_key (account q) (account p) ≡ false) where
    -- where the source has the lesser key
    source_first : GoesWell t (of_finish (source_read_first (account p) (account q) amount (value_of t (account p)) (value_of t (account q))))
    source_first =
        ended_by t _ (source_read_first (account p) (account q) amount (holding (balance t p)) (holding (balance t q)))
        (ap₂ (source_read_first (account p) (account q) amount) (holds.accounts p hp) (holds.accounts q hq))
        (elim (cases_lt (balance t p) amount) [
          | inl less ↦ ended_by t _ _ (transfer.refused_first (account p) (account q) amount (balance t p) (holding (balance t q)) less) (refl, holds)
          | inr enough ↦
              let within = within_total 100000 t p hp holds in
              let others = within_total 100000 t q hq holds in
              ended_by t _ _ (transfer.done_first (account p) (account q) amount (balance t p) (balance t q) there back enough (omega arith) (omega arith))
              (tt, holds_after_two 100000 100000 t p q (balance t p - amount) (balance t q + amount) hp hq apart holds (omega arith))
        ])

    -- where the target has it
    target_first : GoesWell t (of_finish (target_read_first (account p) (account q) amount (value_of t (account p)) (value_of t (account q))))
    target_first =
        ended_by t _ (target_read_first (account p) (account q) amount (holding (balance t p)) (holding (balance t q)))
        (ap₂ (target_read_first (account p) (account q) amount) (holds.accounts p hp) (holds.accounts q hq))
        (elim (cases_lt (balance t p) amount) [
          | inl less ↦ ended_by t _ _ (transfer.refused_second (account p) (account q) amount (balance t p) (holding (balance t q)) there less) (refl, holds)
          | inr enough ↦
              let within = within_total 100000 t p hp holds in
              let others = within_total 100000 t q hq holds in
              ended_by t _ _ (transfer.done_second (account p) (account q) amount (balance t p) (balance t q) there back enough (omega arith) (omega arith))
              (tt, holds_after_two 100000 100000 t q p (balance t q + amount) (balance t p - amount) hq hp (λ is. apart (sym is)) holds (omega arith))
        ])

  -- a transfer, which reads the rows of these uses
  abbrev transferred : List (Bytes × Mode) → Finish
  transferred uses = meaning xfer (transfer.transfer_args (account p) (account q) amount) (read_in t uses)

  transfer_goes_well : GoesWell t (of_finish (transferred (keys_of xfer (transfer.transfer_args (account p) (account q) amount))))
  transfer_goes_well = by (slice_cmp nat_cmp (account q) (account p)) refl
    where
      differ : same_key (account q) (account p) ≡ false → ¬ (account q ≡ account p)
      differ unequal is = let yes : same_key (account q) (account p) ≡ true = (bytes_decides (account q) (account p)).1 is in cc

      by : (o : Ordering) → slice_cmp nat_cmp (account q) (account p) ≡ o → GoesWell t (of_finish (transferred (keys_of xfer (transfer.transfer_args (account p) (account q) amount))))
      by Equal e =
          let same : account q ≡ account p = (bytes_decides (account q) (account p)).0 (same_key_equal (account q) (account p) e) in
          ended_by t _ _ (ap transferred (transfer.uses_same (account p) (account q) amount e))
          (ended_by t _ _ (ap (λ (key : Bytes). meaning xfer (transfer.transfer_args (account p) key amount) ((account p, value_of t (account p)) ∷ [])) same) to_itself)
      by Less e =
          let back = same_key_before (account q) (account p) e in
          ended_by t _ _ (ap transferred (transfer.uses_before (account p) (account q) amount e)) (target_first (differ back) (same_key_after (account p) (account q) e) back)
      by Greater e =
          let flipped = key_before_flip (account q) (account p) e in
          let back = same_key_after (account q) (account p) flipped in
          ended_by t _ _ (ap transferred (transfer.uses_after (account p) (account q) amount e)) (source_first (differ back) (same_key_before (account p) (account q) flipped) back)

-- the body of a move, or of a transfer, of the load
abbrev body_by : Bool → ℕ → ℕ → ℕ → Body
body_by is_move u v w = body_of (cond is_move (wanted.Move (account (u % 100)) (v % 4)) (transfer_call (u % 100) (v % 100) (w % 50 + 1)))

-- what a body of the load comes to, where it is not stale
body_goes_well : (i u v w version : ℕ) (id : TxnId) (t : Table) → HoldsAccounts 100000 t
    → GoesWell t (result_of builtin_procs id (body_of (wanted_by i u v w)) (read_in t (uses_of builtin_procs version (body_of (wanted_by i u v w)))))
body_goes_well i u v w version id t holds = by (i % 50 == 49)
  where
    by : (b : Bool) → GoesWell t (result_of builtin_procs id (body_by b u v w) (read_in t (uses_of builtin_procs version (body_by b u v w))))
    by true = (tt, record { accounts = holds.accounts; others = holds.others; together = holds.together })
    by false = transfer_goes_well t (u % 100) (v % 100) (w % 50 + 1) (omega arith) (omega arith) (omega arith) holds

-- what says that a transaction is stale is an outcome of the load
abbrev IsLoadOutcomeIf : Option Outcome → Type 0
IsLoadOutcomeIf None = Unit {0}
IsLoadOutcomeIf (Some o) = IsLoadOutcome o

stale_is : (access : List Access) (seen : List Seen) → IsLoadOutcomeIf (stale_of access seen)
stale_is [] seen = tt
stale_is (a ∷ access) [] = tt
stale_is (a ∷ access) (s ∷ seen) = by s.mover (stale_is access seen)
  where
    by : (mover : Option TxnId) → IsLoadOutcomeIf (stale_of access seen) → IsLoadOutcomeIf (stale_at s.unit a.counter mover (stale_of access seen))
    by None later = later
    by (Some m) later = tt

-- a transaction of the load goes well
pub load_goes_well : (txn : Txn) (t : Table) → IsOfLoad txn → HoldsAccounts 100000 t → GoesWell t (one builtin_procs txn t)
load_goes_well txn t load holds = by (stale_of txn.access (see txn t)) (stale_is txn.access (see txn t))
  where
    reads : reads_of txn.access (see txn t) ≡ read_in t (uses_of builtin_procs 1 txn.body)
    reads = reads_at t txn.access ∙ ap (read_in t) load.valid.uses

    fresh : GoesWell t (result_of builtin_procs txn.id txn.body (reads_of txn.access (see txn t)))
    fresh = subst (λ (rs : List (Bytes × Option Value)). GoesWell t (result_of builtin_procs txn.id txn.body rs)) (sym reads)
        (subst (λ (body : Body). GoesWell t (result_of builtin_procs txn.id body (read_in t (uses_of builtin_procs 1 body)))) (sym load.body) (body_goes_well load.call _ _ _ 1 txn.id t holds))

    by : (stale : Option Outcome) → IsLoadOutcomeIf stale → GoesWell t (unless_stale stale (result_of builtin_procs txn.id txn.body (reads_of txn.access (see txn t))))
    by None is = fresh
    by (Some o) is = (is, holds)

-- and so do any of them one after another
pub loads_keep : LoadKeepsTotal
loads_keep [] t all holds = holds
loads_keep (txn ∷ txns) t all holds = loads_keep txns (after builtin_procs txn t) all.1 (load_goes_well txn t all.0 holds).1

pub loads_end : (txns : List Txn) (t : Table) → AllIn IsOfLoad txns → HoldsAccounts 100000 t → AllIn (λ d. IsLoadOutcome d.1) (outcomes builtin_procs txns t)
loads_end [] t all holds = tt
loads_end (txn ∷ txns) t all holds = let well = load_goes_well txn t all.0 holds in (well.0, loads_end txns (after builtin_procs txn t) all.1 well.1)
