-- Searches: where one in a list finds an item, what it says that it finds none, what a list is after an item was put to it that
-- was not there, and what an entry is that is found by its key.
use Rattle.std.proofs.Common.{◌≡◌, ◌⊎◌, ℕ, suc, ◌+◌, nat_eq, Bool, true, false, true≢false, cond, List, [], ◌∷◌, ◌++◌, slice_get, Some, None}
use Rattle.std.proofs.Common.{refl, ap, sym, subst, inl, inr, arith, ◌∙◌}
use Rattle.std.specs.Prelude.{Option, is_some}
use Rattle.std.specs.List.{list_any, position, position_from}
use Rattle.std.specs.Map.{lookup}
use Rattle.std.proofs.lemmas.Bool.{cases_Bool}
use Rattle.std.proofs.lemmas.Iterator.Adapters.{position_from-zero}
use Rattle.std.proofs.lemmas.Option.{same_Some}
use Rattle.dt_lists.specs.Lists.{Has}
use Rattle.dt_lists.proofs.Words.{any_get}
use Rattle.dt_lists.proofs.Tests.{any_of_test}
use Rattle.dt_lists.proofs.Changes.{some_same}

-- the test holds of two items where they are the same, and only there
pub record Tells {A : Type 0} (same : A → A → Bool) : Type 0 where
  pub of_test : (x y : A) → same x y ≡ true → x ≡ y
  pub of_self : (x : A) → same x x ≡ true

-- the test of numbers tells them apart
pub tells_number : Tells nat_eq
tells_number = record { of_test = λ x y e. grind (arith, e); of_self = λ x. grind arith }

-- the item that a search found stands at its place
found_from : {A : Type 0} (same : A → A → Bool) → Tells same → (x : A) (xs : List A) (start i : ℕ) → Some i ≡ position_from (same x) start xs → (j : ℕ) × (i ≡ start + j) × (slice_get xs j ≡ Some x)
found_from same t x [] start i e = cc
found_from same t x (y ∷ xs) start i e = by (same x y) refl e (λ f. found_from same t x xs (start + 1) i f)
  where
    by : (b : Bool) → same x y ≡ b → Some i ≡ cond b (Some start) (position_from (same x) (start + 1) xs)
        → (Some i ≡ position_from (same x) (start + 1) xs → (j : ℕ) × (i ≡ start + 1 + j) × (slice_get xs j ≡ Some x)) → (j : ℕ) × (i ≡ start + j) × (slice_get (y ∷ xs) j ≡ Some x)
    by true s f rest = let v : i ≡ start = some_same {x = i} {y = start} f in (0, omega (arith, v), ap Some (sym (t.of_test x y s)))
    by false s f rest = let r = rest f in (suc r.0, omega (arith, r.1), r.2)

pub found_at : {A : Type 0} (same : A → A → Bool) → Tells same → (x : A) (xs : List A) (i : ℕ) → Some i ≡ position (same x) xs → slice_get xs i ≡ Some x
found_at same t x xs i e = let r = found_from same t x xs 0 i (e ∙ position_from-zero (same x) xs) in let s : i ≡ r.0 = omega (arith, r.1) in ap (slice_get xs) s ∙ r.2

-- where a search gives no place, the item is not there
missed_from : {A : Type 0} (same : A → A → Bool) → Tells same → (x : A) (xs : List A) (start : ℕ) → None ≡ position_from (same x) start xs → ¬ (Has xs x)
missed_from same t x [] start e h = h
missed_from same t x (y ∷ xs) start e h = by (same x y) refl e (λ f. missed_from same t x xs (start + 1) f)
  where
    by : (b : Bool) → same x y ≡ b → None ≡ cond b (Some start) (position_from (same x) (start + 1) xs) → (None ≡ position_from (same x) (start + 1) xs → ¬ (Has xs x)) → ⊥
    by true s f rest = cc
    by false s f rest = elim h [ inl e ↦ true≢false (sym (subst (λ z. same x z ≡ true) (sym e) (t.of_self x)) ∙ s) | inr g ↦ rest f g ]

pub missed : {A : Type 0} (same : A → A → Bool) → Tells same → (x : A) (xs : List A) → None ≡ position (same x) xs → ¬ (Has xs x)
missed same t x xs e = missed_from same t x xs 0 (e ∙ position_from-zero (same x) xs)

-- an item that is not there is put at the back
pub added_new : {A : Type 0} (same : A → A → Bool) → Tells same → (x : A) (xs : List A) → ¬ (Has xs x) → cond (list_any (same x) xs) xs (xs ++ x ∷ []) ≡ xs ++ x ∷ []
added_new same t x xs fresh = by (list_any (same x) xs) refl
  where
    by : (b : Bool) → list_any (same x) xs ≡ b → cond b xs (xs ++ x ∷ []) ≡ xs ++ x ∷ []
    by true e = let r = any_get (λ y. same x y ≡ true) xs (any_of_test (same x) xs e) in absurd (fresh (subst (Has xs) (sym (t.of_test x r.0 r.2)) r.1))
    by false e = refl

-- what a test finds that only one key passes is an entry of this key
pub lookup_has : {K V : Type 0} (test : K → Bool) (key : K) → ((k : K) → test k ≡ true → k ≡ key) → (entries : List (K × V)) (v : V) → lookup test entries ≡ Some v → Has entries (key, v)
lookup_has test key only [] v e = cc
lookup_has test key only (x ∷ entries) v e = go (cases_Bool (test x.0)) (lookup_has test key only entries v)
  where
    go : (test x.0 ≡ true) ⊎ (test x.0 ≡ false) → (lookup test entries ≡ Some v → Has entries (key, v)) → Has (x ∷ entries) (key, v)
    go (inl p) f = inl (λ i. (only x.0 p i, same_Some x.1 v (rw p at e) i))
    go (inr n) f = inr (f (rw n at e))

-- what is not found is not there
pub not_some : {A : Type 0} (o : Option A) → false ≡ is_some o → o ≡ None
not_some None e = refl
not_some (Some x) e = cc
