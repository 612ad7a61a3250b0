-- Whether one region has done what another one submitted: the submissions are counted, so they are found by their numbers.
use Rattle.std.proofs.Common.{◌≡◌, ◌≢◌, ◌<◌, ◌≤◌, ◌+◌, ◌-◌, ℕ, List, [], ◌∷◌, length, slice_get, None, Some, refl, sym, subst, ◌∙◌, inl, inr, arith}
use Rattle.std.proofs.Common.{true, false, map}
use Rattle.std.specs.Map.{lookup}
use Rattle.std.proofs.Common.{Option}
use Rattle.std.proofs.lemmas.Bool.{false≢true}
use Rattle.std.proofs.Common.{Bor}
use Rattle.std.specs.Option.{is_some, option_copied}
use Rattle.std.proofs.lemmas.Option.{slice_get_past, slice_get_within}
use Rattle.dt_lists.specs.Lists.{AllIn, Either, Has}
use Rattle.dt_lists.proofs.Callers.{all_get, all_of_gets, at_place, either_le, either_nat, has_place}
use Rattle.dt_access.specs.declared.TxnId.{TxnId}
use Rattle.dt_access.proofs.Callers.{id_of_test, test_of_id}
use Rattle.dt_access.specs.Ids.{same_id}
use Rattle.dt_txn.specs.declared.Txn.{Txn}
use Rattle.dt_txn.specs.declared.Outcome.{Outcome}
use Rattle.dt_txn.specs.Replica.{done_ids}
use Rattle.dt_region.proofs.Callers.{held_id, held_own}
use Rattle.dt_region.specs.Region.{RegionState, held, outcome_of}
use Rattle.dt_region.specs.Sound.{IsSoundRegion}

-- all submissions below a number are done
pub record DoneBelow (s : RegionState) (done : List TxnId) (id : TxnId) : Type 0 where
  pub own : id.region ≡ s.number
  pub from : 1 ≤ id.seq
  pub to : id.seq ≤ length s.submitted + 1
  pub each : (k : ℕ) (x : Txn) → slice_get s.submitted k ≡ Some x → k + 1 < id.seq → Has done x.id

module _ {s : RegionState} (sound : IsSoundRegion s) {done : List TxnId} {id : TxnId} (d : DoneBelow s done id) where
  -- what is held under the number stands at its place
  held_at : held s id ≡ slice_get s.submitted (id.seq - 1)
  held_at = let from = d.from in held_own s.number s.submitted s.foreign id (id.seq - 1) sound.counted sound.foreign d.own (omega (arith, from))

  pub within : held s id ≢ None → id.seq ≤ length s.submitted
  within there = by (either_le id.seq (length s.submitted))
    where
      by : Either (id.seq ≤ length s.submitted) → id.seq ≤ length s.submitted
      by (inl le) = le
      by (inr n) = absurd (there (held_at ∙ slice_get_past s.submitted (id.seq - 1) (omega (arith, n))))

  -- so where one is held, one stands there
  pub number_held : held s id ≢ None → (x : Txn) × (slice_get s.submitted (id.seq - 1) ≡ Some x)
  number_held there = let le = within there in let from = d.from in at_place s.submitted (id.seq - 1) (omega (arith, le, from))

  is_its : (x : Txn) → slice_get s.submitted (id.seq - 1) ≡ Some x → x.id ≡ id
  is_its x e = held_id s id x (held_at ∙ e)

  -- it is done, and so are all below the next number
  pub done_goes : held s id ≢ None → Has done id → (next : TxnId) → next.seq ≡ id.seq + 1 → next.region ≡ id.region → DoneBelow s done next
  done_goes there h next up at = record {
    own = at ∙ d.own;
    from = omega (arith, up);
    to = let le = within there in omega (arith, le, up);
    each = λ k x e lt. by k x e (omega (arith, lt, up)) (either_nat k (id.seq - 1));
  }
    where
      by : (k : ℕ) (x : Txn) → slice_get s.submitted k ≡ Some x → k < id.seq → Either (k ≡ id.seq - 1) → Has done x.id
      by k x e lt (inl is) = subst (Has done) (sym (is_its x (subst (λ n. slice_get s.submitted n ≡ Some x) is e))) h
      by k x e lt (inr n) = let from = d.from in d.each k x e (omega (arith, lt, n, from))

  -- it is not done, so not all are
  pub done_fails : held s id ≢ None → ¬ (Has done id) → ¬ (AllIn (λ txn. Has done txn.id) s.submitted)
  done_fails there none all =
      let r : (x : Txn) × (slice_get s.submitted (id.seq - 1) ≡ Some x) = number_held there in
      none (subst (Has done) (is_its r.0 r.1) (all_get (λ txn. Has done txn.id) s.submitted all r.0 (has_place s.submitted (id.seq - 1) r.0 r.1)))

  -- none is held under the number, so all are done
  pub done_all : held s id ≡ None → AllIn (λ txn. Has done txn.id) s.submitted
  done_all none = all_of_gets (λ txn. Has done txn.id) s.submitted (λ k x e. d.each k x e (far k x e))
    where
      long : id.seq ≡ length s.submitted + 1
      long = by (either_le id.seq (length s.submitted))
        where
          by : Either (id.seq ≤ length s.submitted) → id.seq ≡ length s.submitted + 1
          by (inl le) =
              let from = d.from in
              let r : (x : Txn) × (slice_get s.submitted (id.seq - 1) ≡ Some x) = at_place s.submitted (id.seq - 1) (omega (arith, le, from)) in
              let bad : None ≡ Some r.0 = sym none ∙ held_at ∙ r.1 in cc
          by (inr n) = let to = d.to in omega (arith, n, to)

      far : (k : ℕ) (x : Txn) → slice_get s.submitted k ≡ Some x → k + 1 < id.seq
      far k x e = let lt : k < length s.submitted = slice_get_within s.submitted k x e in omega (arith, lt, long)

-- what a region keeps as done, by its outcomes
pub outcome_done : (s : RegionState) (id : TxnId) → outcome_of s id ≢ None → Has (done_ids s.here) id
outcome_done s id there = go s.here.done there
  where
    go : (es : List (TxnId × Outcome)) → lookup (same_id id) es ≢ None → Has (map (λ e. e.0) es) id
    go [] n = absurd (n refl)
    go (x ∷ es) n = elim (same_id id x.0) as (λ b. same_id id x.0 ≡ b → Has (map (λ e. e.0) (x ∷ es)) id) [
      | true ↦ λ t. inl (sym (id_of_test id x.0 t))
      | false ↦ λ t. inr (go es (λ e. n (rw t e)))
    ] refl

pub no_outcome : (s : RegionState) (id : TxnId) → outcome_of s id ≡ None → ¬ (Has (done_ids s.here) id)
no_outcome s id none h = go s.here.done none h
  where
    go : (es : List (TxnId × Outcome)) → lookup (same_id id) es ≡ None → ¬ (Has (map (λ e. e.0) es) id)
    go [] e h = h
    go (x ∷ es) e (inl is) = let found : lookup (same_id id) (x ∷ es) ≡ Some x.1 = rw (test_of_id id x.0 (sym is)) refl in let bad : None ≡ Some x.1 = sym e ∙ found in cc
    go (x ∷ es) e (inr h) = elim (same_id id x.0) as (λ b. same_id id x.0 ≡ b → ⊥) [
      | true ↦ λ t. let found : lookup (same_id id) (x ∷ es) ≡ Some x.1 = rw t refl in let bad : None ≡ Some x.1 = sym e ∙ found in cc
      | false ↦ λ t. go es (rw t at e) h
    ] refl

-- what is known of a thing behind a reference
pub some_held : {A : Type 0} (o : Option (Bor A)) (h : Option A) → option_copied o ≡ h → is_some o ≡ true → h ≢ None
some_held None h e s = absurd (false≢true s)
some_held {A} (Some b) h e s = λ n. let bad : ◌≡◌ {A = Option A} None (Some b.now) = sym n ∙ sym e in cc

pub none_held : {A : Type 0} (o : Option (Bor A)) (h : Option A) → option_copied o ≡ h → is_some o ≡ false → h ≡ None
none_held None h e s = sym e
none_held (Some b) h e s = absurd (false≢true (sym s))
