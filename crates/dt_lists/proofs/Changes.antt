-- Lists of which an item was replaced, what equal lists and equal options have in common, and lists that may be missing.
use Rattle.std.proofs.Common.{◌≡◌, ◌≢◌, ◌<◌, ℕ, zero, suc, List, [], ◌∷◌, ◌++◌, length, set, slice_get, Option, Some, None, refl, ap, arith, append_assoc}
use Rattle.std.specs.Option.{option_map}
use Rattle.std.proofs.lemmas.Option.{same_Some}

-- an item was put at a place: it stands there, and what stands at each other place is as before

pub set_here : {A : Type 0} (xs : List A) (i : ℕ) (y : A) → i < length xs → slice_get (set xs i y) i ≡ Some y
set_here [] i y lt = absurd (omega (arith, lt))
set_here (z ∷ xs) zero y lt = refl
set_here (z ∷ xs) (suc i) y lt = set_here xs i y (omega (arith, lt))

pub set_beside : {A : Type 0} (xs : List A) (i j : ℕ) (y : A) → j ≢ i → slice_get (set xs i y) j ≡ slice_get xs j
set_beside [] i j y ne = refl
set_beside (z ∷ xs) zero zero y ne = absurd (ne refl)
set_beside (z ∷ xs) zero (suc j) y ne = refl
set_beside (z ∷ xs) (suc i) zero y ne = refl
set_beside (z ∷ xs) (suc i) (suc j) y ne = set_beside xs i j y (λ e. ne (ap suc e))

-- equal lists begin alike and go on alike
pub same_head : {A : Type 0} {x y : A} {xs ys : List A} → x ∷ xs ≡ y ∷ ys → x ≡ y
same_head e = cc

pub same_tail : {A : Type 0} {x y : A} {xs ys : List A} → x ∷ xs ≡ y ∷ ys → xs ≡ ys
same_tail e = cc

-- equal lists that begin with one list go on alike
pub same_rest : {A : Type 0} (front xs ys : List A) → front ++ xs ≡ front ++ ys → xs ≡ ys
same_rest [] xs ys e = e
same_rest (b ∷ front) xs ys e = same_rest front xs ys (same_tail e)

-- two lists that are empty together are empty
pub both_empty : {A : Type 0} (xs ys : List A) → xs ++ ys ≡ [] → (xs ≡ []) × (ys ≡ [])
both_empty [] ys e = (refl, e)
both_empty (x ∷ xs) ys e = cc

-- equal options hold one thing: the kit's lemma, with what they hold left to be found
pub some_same : {A : Type 0} {x y : A} → Some x ≡ Some y → x ≡ y
some_same e = same_Some _ _ e

-- an option that holds nothing holds no thing
pub none_some : {A : Type 0} {x : A} {o : Option A} → o ≡ None → o ≡ Some x → ⊥
none_some e f = cc

-- lists that may be missing: nothing in front changes none, and an item behind the front may as well stand before the rest
pub joined_none : {A : Type 0} (rest : Option (List A)) → option_map (λ xs. [] ++ xs) rest ≡ rest
joined_none None = refl
joined_none (Some xs) = refl

pub joined_more : {A : Type 0} (front : List A) (x : A) (rest : Option (List A)) → option_map (λ xs. (front ++ x ∷ []) ++ xs) rest ≡ option_map (λ xs. front ++ xs) (option_map (λ xs. x ∷ xs) rest)
joined_more front x None = refl
joined_more front x (Some xs) = ap Some (append_assoc front (x ∷ []) xs)
