-- A walk along a list by its places: the item at a place stands between those before it and those after it.
use Rattle.std.proofs.Common.{◌≡◌, ◌<◌, ◌⊎◌, ◌↔◌, ◌+◌, ℕ, List, [], ◌∷◌, ◌++◌, length, get_or, take, drop, refl, sym, subst, inl, inr}
use Rattle.std.proofs.lemmas.Grind.{take_at_read}
use Rattle.std.proofs.lemmas.List.{drop_more}
use Rattle.dt_lists.specs.Lists.{Has}
use Rattle.dt_lists.proofs.Callers.{any_append, any_append_left, any_append_right}

-- and the item there is one of what is left
pub next_in : (items : List ℕ) (place : ℕ) → place < length items → Has (drop place items) (get_or items place 0)
next_in items place lt = subst (λ l. Has l (get_or items place 0)) (sym (drop_more items place 0 lt)) (inl refl)

-- an item is in what is passed after a place where it is in what was passed before, or is the item there
pub passed_at : (items : List ℕ) (place : ℕ) → place < length items → (v : ℕ) → Has (take (place + 1) items) v ↔ Has (take place items) v ⊎ (get_or items place 0 ≡ v)
passed_at items place lt v = (
  λ h. elim (any_append (λ y. y ≡ v) (take place items) _ (subst (λ l. Has l v) longer h)) [ inl o ↦ inl o | inr m ↦ elim m [ inl e ↦ inr e | inr z ↦ absurd z ] ],
  λ h. subst (λ l. Has l v) (sym longer) (elim h [
    | inl o ↦ any_append_left (λ y. y ≡ v) (take place items) (get_or items place 0 ∷ []) o
    | inr e ↦ any_append_right (λ y. y ≡ v) (take place items) (get_or items place 0 ∷ []) (inl e)
  ]),
)
  where
    longer : take (place + 1) items ≡ take place items ++ get_or items place 0 ∷ []
    longer = (take_at_read items place 0 lt).1
