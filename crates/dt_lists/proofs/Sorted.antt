-- Lists that a sort gives: they have the same items, each as often, and where none stands twice each is before all later ones.
use Rattle.std.proofs.Common.{◌≡◌, suc, ◌+◌, ◌⊎◌, ◌↔◌, Bool, true, false, List, [], ◌∷◌, subst, inl, inr, arith, IsPermutation, IsSorted}
use Rattle.std.specs.Ordering.{is_lt}
use Rattle.std.specs.declared.cmp.Ordering.{Ordering}
use Rattle.std.specs.List.{AllByRecursion, Contains, IsDistinct, list_any}
use Rattle.std.proofs.lemmas.Map.Keys.{IsDistinct-IsPermutation}
use Rattle.std.proofs.lemmas.List.Sorted.{Contains-permutation, IsPermutation-sym}
use Rattle.std.proofs.lemmas.Bool.{both_ways, false_from_ne_true}
use Rattle.dt_lists.specs.Lists.{AllIn, Has, Distinct, EachThen}
use Rattle.dt_lists.proofs.Places.{has_at}
use Rattle.dt_lists.proofs.Tests.{any_of_test, test_of_any}
use Rattle.dt_lists.proofs.Words.{all_map, any_map}

-- a permutation has the same items

contains_of : {A : Type 0} (xs : List A) (x : A) → Has xs x → Contains xs x
contains_of [] x h = absurd h
contains_of (y ∷ xs) x (inl e) = (0, omega arith, e)
contains_of (y ∷ xs) x (inr h) = let r = contains_of xs x h in (suc r.0, omega (arith, r.1), r.2)

has_of : {A : Type 0} (xs : List A) (x : A) → Contains xs x → Has xs x
has_of xs x c = subst (Has xs) c.2 (has_at xs c.0 x c.1)

has_permuted : {A : Type 0} (xs ys : List A) (x : A) → IsPermutation xs ys → Has xs x → Has ys x
has_permuted xs ys x p h = has_of ys x (Contains-permutation xs ys x p (contains_of xs x h))

pub permuted_has : {A : Type 0} (xs ys : List A) → IsPermutation xs ys → (x : A) → Has ys x ↔ Has xs x
permuted_has xs ys p x = (has_permuted ys xs x (IsPermutation-sym xs ys p), has_permuted xs ys x p)

-- a test tells whether two items are alike: whether no two of a list are, is the same of its permutations
module _ {A : Type 0} (Alike : A → A → Type 0) (same : A → A → Bool)
    (tells : (x y : A) → same x y ≡ true → Alike x y) (told : (x y : A) → Alike x y → same x y ≡ true) (turned : (x y : A) → same x y ≡ same y x) where
  std_distinct : (xs : List A) → EachThen (λ x y. ¬ (Alike x y)) xs → IsDistinct same xs
  unfolding IsDistinct
  std_distinct [] d = tt
  std_distinct (x ∷ xs) d = (each_differs xs d.0, std_distinct xs d.1)
    where
      each_differs : (ys : List A) → AllIn (λ y. ¬ (Alike x y)) ys → AllByRecursion (λ y. same x y ≡ false) ys
      each_differs [] a = tt
      each_differs (y ∷ ys) a = (false_from_ne_true (same x y) (λ e. a.0 (tells x y e)), each_differs ys a.1)

  own_distinct : (xs : List A) → IsDistinct same xs → EachThen (λ x y. ¬ (Alike x y)) xs
  unfolding IsDistinct
  own_distinct [] d = tt
  own_distinct (x ∷ xs) d = (each_apart xs d.0, own_distinct xs d.1)
    where
      each_apart : (ys : List A) → AllByRecursion (λ y. same x y ≡ false) ys → AllIn (λ y. ¬ (Alike x y)) ys
      each_apart [] a = tt
      each_apart (y ∷ ys) a = ((λ e. both_ways _ a.0 (told x y e)), each_apart ys a.1)

  pub permuted_apart : (xs ys : List A) → IsPermutation xs ys → EachThen (λ x y. ¬ (Alike x y)) xs → EachThen (λ x y. ¬ (Alike x y)) ys
  permuted_apart xs ys p d = own_distinct ys (IsDistinct-IsPermutation same turned xs ys p (std_distinct xs d))

-- whether two are the same is decided by a test
module _ {A : Type 0} (same : A → A → Bool) (tells : (x y : A) → same x y ≡ true → x ≡ y) (told : (x y : A) → x ≡ y → same x y ≡ true) (turned : (x y : A) → same x y ≡ same y x) where
  pub has_listed : (xs : List A) (u : A) → Has xs u → list_any (λ x. same x u) xs ≡ true
  has_listed xs u h = test_of_any (λ x. same x u) xs (any_map _ _ xs (λ x e. told x u e) h)

  pub listed_has : (xs : List A) (u : A) → list_any (λ x. same x u) xs ≡ true → Has xs u
  listed_has xs u t = any_map _ _ xs (λ x e. tells x u e) (any_of_test (λ x. same x u) xs t)

  pub permuted_distinct : (xs ys : List A) → IsPermutation xs ys → Distinct xs → Distinct ys
  permuted_distinct xs ys p d = permuted_apart (λ x y. x ≡ y) same tells told turned xs ys p d

-- each is before all later ones, where of two different ones the one is before the other or above it
module _ {A : Type 0} (cmp : A → A → Ordering) (R : A → A → Type 0) (one_way : (x y : A) → ¬ (x ≡ y) → R x y ⊎ (is_lt (cmp y x) ≡ true)) (onward : (x y z : A) → R x y → R y z → R x z) where
  sorted_tail : (x : A) (xs : List A) → IsSorted cmp (x ∷ xs) → IsSorted cmp xs
  sorted_tail x xs s k d low h =
      let e : suc k + 1 ≡ suc (k + 1) = omega arith in
      rw e at (s (suc k) d (omega arith) (omega arith))

  not_above : (x y : A) (xs : List A) → IsSorted cmp (x ∷ y ∷ xs) → is_lt (cmp y x) ≡ true → ⊥
  not_above x y xs s t =
      let f : is_lt (cmp y x) ≡ false = s 0 x (omega arith) (omega arith) in
      cc

  pub each_of_sorted : (xs : List A) → IsSorted cmp xs → Distinct xs → EachThen R xs
  each_of_sorted [] s d = tt
  each_of_sorted (x ∷ []) s d = (tt, tt)
  each_of_sorted (x ∷ y ∷ ys) s d =
      let rest : EachThen R (y ∷ ys) = each_of_sorted (y ∷ ys) (sorted_tail x (y ∷ ys) s) d.1 in
      let first : R x y = elim (one_way x y d.0.0) [ inl b ↦ b | inr b ↦ absurd (not_above x y ys s b) ] in
      ((first, all_map (R y) (R x) ys (λ z b. onward x y z first b) rest.0), rest)
