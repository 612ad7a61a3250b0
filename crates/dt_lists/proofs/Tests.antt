-- A test over a list is passed where some item passes it.
use Rattle.std.proofs.Common.{◌≡◌, Bool, true, List, [], ◌∷◌, inl, inr}
use Rattle.std.specs.List.{list_any}
use Rattle.std.proofs.lemmas.Bool.{or_cases, or_left, or_right}
use Rattle.dt_lists.specs.Lists.{AnyIn}

pub any_of_test : {A : Type 0} (p : A → Bool) (xs : List A) → list_any p xs ≡ true → AnyIn (λ x. p x ≡ true) xs
any_of_test p [] e = cc
any_of_test p (x ∷ xs) e = elim (or_cases (p x) (list_any p xs) e) [ inl a ↦ inl a | inr b ↦ inr (any_of_test p xs b) ]

pub test_of_any : {A : Type 0} (p : A → Bool) (xs : List A) → AnyIn (λ x. p x ≡ true) xs → list_any p xs ≡ true
test_of_any p [] e = absurd e
test_of_any p (x ∷ xs) (inl a) = or_left (p x) (list_any p xs) a
test_of_any p (x ∷ xs) (inr e) = or_right (p x) (list_any p xs) (test_of_any p xs e)
