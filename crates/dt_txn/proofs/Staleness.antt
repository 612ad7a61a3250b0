-- When a transaction is stale, by the numbers of moves.
use Rattle.std.proofs.Common.{◌≡◌, ◌<◌, ◌≤◌, ◌⊎◌, ◌↔◌, ℕ, zero, suc, List, [], ◌∷◌, length, map, slice_get, Some, None, refl, sym, ap, subst, ◌∙◌, inl, inr, arith}
use Rattle.std.specs.Prelude.{Option, option_map}
use Rattle.std.proofs.lemmas.Bool.{cases_order}
use Rattle.dt_lists.specs.Lists.{AnyIn}
use Rattle.dt_access.specs.Clash.{Bytes}
use Rattle.dt_access.specs.Granules.{unit_of}
use Rattle.dt_access.specs.declared.TxnId.{TxnId}
use Rattle.dt_access.specs.declared.Access.{Access}
use Rattle.dt_text.specs.declared.Value.{Value}
use Rattle.dt_proc.specs.Tree.{ProcTree}
use Rattle.dt_eval.specs.Calls.{call_meaning}
use Rattle.dt_eval.specs.declared.Finish.{Finish}
use Rattle.dt_eval.specs.declared.finish.Finish.TheVariants as finish
use Rattle.dt_table.specs.Table.{Table, Moved, moves_of, counter_of, next_mover}
use Rattle.dt_table.specs.declared.Effect.{Effect}
use Rattle.dt_txn.specs.declared.txn.Body.{Body}
use Rattle.dt_txn.specs.declared.txn.Body.TheVariants.{Call, Move}
use Rattle.dt_txn.specs.declared.txn.Txn.{Txn}
use Rattle.dt_txn.specs.declared.outcome.Outcome.{Outcome}
use Rattle.dt_txn.specs.declared.outcome.Outcome.TheVariants.{Stale}
use Rattle.dt_txn.specs.Execution.{no_effect, of_finish, one, reads_of, result_of, see, seen_of, stale_at, stale_of, unless_stale}
use Rattle.dt_txn.specs.Staleness.{IsFirstMoved, IsMovedSince, IsStaleOutcome}
use Rattle.dt_txn.proofs.Sight.{next_mover_none}

-- where a key has more moves than these, someone made the next
next_mover_some : (t : Table) (key : Bytes) (had : ℕ) → had < counter_of t key → (by : TxnId) × (next_mover t key had ≡ Some by)
next_mover_some t key had more = at (moves_of t key) had more
  where
    at : (ms : List Moved) (c : ℕ) → c < length ms → (by : TxnId) × (option_map (λ (m : Moved). m.by) (slice_get ms c) ≡ Some by)
    at [] c h = absurd (omega arith)
    at (m ∷ ms) zero h = (m.by, refl)
    at (m ∷ ms) (suc c) h = at ms c (omega arith)

-- an entry whose key has no more moves than it was annotated with is passed
passed : (t : Table) (a : Access) (access : List Access) → counter_of t a.key ≤ a.counter
    → stale_of (a ∷ access) (map (seen_of t) (a ∷ access)) ≡ stale_of access (map (seen_of t) access)
passed t a access few = ap (λ m. stale_at (unit_of t.version a.key) a.counter m (stale_of access (map (seen_of t) access))) (next_mover_none t a.key a.counter few)

-- the outcome names the first entry whose key has more
first_stale : (t : Table) (access : List Access) (entry : Access) → IsFirstMoved t access entry
    → (by : TxnId) × (next_mover t entry.key entry.counter ≡ Some by) × (stale_of access (map (seen_of t) access) ≡ Some (Stale (unit_of t.version entry.key) entry.counter by))
first_stale t [] entry first = absurd first
first_stale t (a ∷ access) entry (inl here) =
    let next : (by : TxnId) × (next_mover t a.key a.counter ≡ Some by) = next_mover_some t a.key a.counter here.1 in
    let stale : stale_of (a ∷ access) (map (seen_of t) (a ∷ access)) ≡ Some (Stale (unit_of t.version a.key) a.counter next.0)
    = ap (λ m. stale_at (unit_of t.version a.key) a.counter m (stale_of access (map (seen_of t) access))) next.1 in (
      next.0,
      subst (λ (e : Access). next_mover t e.key e.counter ≡ Some next.0) (sym here.0) next.1,
      stale ∙ ap (λ (e : Access). Some (Stale (unit_of t.version e.key) e.counter next.0)) (sym here.0),
    )
first_stale t (a ∷ access) entry (inr later) =
    let rest = first_stale t access entry later.1 in
    (rest.0, rest.1, passed t a access later.0 ∙ rest.2)

any_of_first : (t : Table) (access : List Access) (entry : Access) → IsFirstMoved t access entry → AnyIn (IsMovedSince t) access
any_of_first t [] entry first = absurd first
any_of_first t (a ∷ access) entry (inl here) = inl here.1
any_of_first t (a ∷ access) entry (inr later) = inr (any_of_first t access entry later.1)

-- there is a first entry whose key has more moves, or no entry is stale
abbrev FirstOrNone : Table → List Access → Type 0
FirstOrNone t access =
    ((entry : Access) × IsFirstMoved t access entry) ⊎ ((stale_of access (map (seen_of t) access) ≡ None) × ¬ (AnyIn (IsMovedSince t) access))

first_or_none : (t : Table) (access : List Access) → FirstOrNone t access
first_or_none t [] = inr (refl, λ some. some)
first_or_none t (a ∷ access) = by (first_or_none t access) (cases_order a.counter (counter_of t a.key))
  where
    pass : counter_of t a.key ≤ a.counter → FirstOrNone t access → FirstOrNone t (a ∷ access)
    pass few (inl later) = inl (later.0, inr (few, later.1))
    pass few (inr none) = inr (passed t a access few ∙ none.0, λ some. elim some [ inl more ↦ absurd (omega arith) | inr later ↦ none.1 later ])

    by : FirstOrNone t access → (a.counter ≡ counter_of t a.key) ⊎ ((a.counter < counter_of t a.key) ⊎ (counter_of t a.key < a.counter)) → FirstOrNone t (a ∷ access)
    by rest (inl same) = pass (omega arith) rest
    by rest (inr (inl more)) = inl (a, inl (refl, more))
    by rest (inr (inr less)) = pass (omega arith) rest

-- what a body gives is never stale
finish_fresh : (f : Finish) → ¬ (IsStaleOutcome (of_finish f).0)
finish_fresh (finish.Gave values writes) k = k
finish_fresh (finish.Aborted cause) k = k

pub own_fresh : (procs : List ProcTree) (id : TxnId) (body : Body) (reads : List (Bytes × Option Value)) → ¬ (IsStaleOutcome (result_of procs id body reads).0)
own_fresh procs id (Call proc args) reads k = finish_fresh (call_meaning procs proc args reads) k
own_fresh procs id (Move key target) reads k = k

module _ (procs : List ProcTree) (txn : Txn) (t : Table) where
  -- what its body gives on the rows that it reads
  abbrev given : Outcome × Effect
  given = result_of procs txn.id txn.body (reads_of txn.access (see txn t))

  pub one_first : (entry : Access) → IsFirstMoved t txn.access entry
      → (by : TxnId) × (next_mover t entry.key entry.counter ≡ Some by) × (one procs txn t ≡ (Stale (unit_of t.version entry.key) entry.counter by, no_effect))
  one_first entry first =
      let stale : (by : TxnId) × (next_mover t entry.key entry.counter ≡ Some by)
      × (stale_of txn.access (see txn t) ≡ Some (Stale (unit_of t.version entry.key) entry.counter by)) = first_stale t txn.access entry first in
      (stale.0, stale.1, ap (λ s. unless_stale s given) stale.2)

  pub one_otherwise : ¬ (AnyIn (IsMovedSince t) txn.access) → one procs txn t ≡ given
  one_otherwise none = by (first_or_none t txn.access)
    where
      by : FirstOrNone t txn.access → one procs txn t ≡ given
      by (inl first) = absurd (none (any_of_first t txn.access first.0 first.1))
      by (inr fresh) = ap (λ s. unless_stale s given) fresh.0

  pub stale_exactly : IsStaleOutcome (one procs txn t).0 ↔ AnyIn (IsMovedSince t) txn.access
  stale_exactly = by (first_or_none t txn.access)
    where
      by : FirstOrNone t txn.access → IsStaleOutcome (one procs txn t).0 ↔ AnyIn (IsMovedSince t) txn.access
      by (inl first) =
          let stale : (by : TxnId) × (next_mover t (first.0).key (first.0).counter ≡ Some by)
          × (one procs txn t ≡ (Stale (unit_of t.version (first.0).key) (first.0).counter by, no_effect)) = one_first first.0 first.1 in
          (λ _. any_of_first t txn.access first.0 first.1, λ _. subst (λ (r : Outcome × Effect). IsStaleOutcome r.0) (sym stale.2) tt)
      by (inr fresh) = (
        λ stale. absurd (own_fresh procs txn.id txn.body (reads_of txn.access (see txn t))
            (subst (λ (r : Outcome × Effect). IsStaleOutcome r.0) (one_otherwise fresh.1) stale)),
        λ some. absurd (fresh.1 some),
      )
