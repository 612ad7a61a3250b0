-- Loops over a list that look for an item: what is left gives what the whole list gives.
use Rattle.std.proofs.Common.{◌≡◌, ℕ, ◌+◌, ◌<◌, ◌↔◌, Bool, true, false, List, [], ◌∷◌, ◌++◌, ◌∙◌, length, get_or, take, drop, refl, sym, ap, inl, inr, IsTrue}
use Rattle.std.proofs.lemmas.List.{take_more}
use Rattle.dt_lists.specs.Lists.{AnyIn, AllIn}
use Rattle.dt_lists.proofs.Callers.{from_item}

-- at a place of the list, the item there comes after the items before it
pub take-at : {A : Type 0} (xs : List A) (i : ℕ) (x d : A) → i < length xs → x ≡ get_or xs i d → take (i + 1) xs ≡ take i xs ++ x ∷ []
take-at xs i x d h e = take_more xs i d h ∙ ap (λ y. take i xs ++ y ∷ []) (sym e)

-- what a test that answered true says, and one that answered false
pub tested : {P : Type 0} (b : Bool) → (IsTrue b ↔ P) → b ≡ true → P
tested b k e = k.0 e

pub refuted : {P : Type 0} (b : Bool) → (IsTrue b ↔ P) → b ≡ false → ¬ P
refuted b k e p = let t : b ≡ true = k.1 p in cc

-- the item at hand passes, so some item does
pub any_found : {A : Type 0} (P : A → Type 0) (xs : List A) (i : ℕ) (x d : A) (b : Bool)
    → i < length xs → x ≡ get_or xs i d → (AnyIn P (drop i xs) ↔ AnyIn P xs) → (IsTrue b ↔ P x) → b ≡ true → IsTrue true ↔ AnyIn P xs
any_found P xs i x d b h e k t p = (λ _. k.0 (rw (from_item xs i x _ h e) (inl (tested b t p))), λ _. refl)

-- the item at hand fails, so one that passes is in the rest
pub any_on : {A : Type 0} (P : A → Type 0) (xs : List A) (i : ℕ) (x d : A) (b : Bool)
    → i < length xs → x ≡ get_or xs i d → (AnyIn P (drop i xs) ↔ AnyIn P xs) → (IsTrue b ↔ P x) → b ≡ false → (AnyIn P (drop (i + 1) xs) ↔ AnyIn P xs)
any_on P xs i x d b h e k t n = (
  λ a. k.0 (rw (from_item xs i x _ h e) (inr a)),
  λ a. elim (rw (from_item xs i x _ h e) at (k.1 a)) [ inl p ↦ absurd (refuted b t n p) | inr r ↦ r ],
)

-- the item at hand fails, so not all pass
pub all_failed : {A : Type 0} (P : A → Type 0) (xs : List A) (i : ℕ) (x d : A) (b : Bool)
    → i < length xs → x ≡ get_or xs i d → (AllIn P (drop i xs) ↔ AllIn P xs) → (IsTrue b ↔ P x) → b ≡ false → IsTrue false ↔ AllIn P xs
all_failed P xs i x d b h e k t n = (λ f. cc, λ a. absurd (refuted b t n (rw (from_item xs i x _ h e) at (k.1 a)).0))

-- the item at hand passes, so all pass where the rest does
pub all_on : {A : Type 0} (P : A → Type 0) (xs : List A) (i : ℕ) (x d : A) (b : Bool)
    → i < length xs → x ≡ get_or xs i d → (AllIn P (drop i xs) ↔ AllIn P xs) → (IsTrue b ↔ P x) → b ≡ true → (AllIn P (drop (i + 1) xs) ↔ AllIn P xs)
all_on P xs i x d b h e k t p = (
  λ a. k.0 (rw (from_item xs i x _ h e) (tested b t p, a)),
  λ a. (rw (from_item xs i x _ h e) at (k.1 a)).1,
)
