-- The words by which all crates speak of lists: some item, each item, one item before another, no item twice. Each is
-- defined by recursion on the list, so that proofs go along the list; std's `Any`, `All` and `Contains` say the same by
-- index. What follows from them stands in proofs/Callers.antt. Read next: Chain.antt, chains of steps.
use Rattle.std.specs.Prelude.{◌≡◌, ◌⊎◌, List, [], ◌∷◌, ◌++◌}

-- some item of the list has P
abbrev pub AnyIn : {A : Type 0} → (A → Type 0) → List A → Type 0
AnyIn P [] = ⊥
AnyIn P (x ∷ xs) = P x ⊎ AnyIn P xs

-- each item of the list has P
abbrev pub AllIn : {A : Type 0} → (A → Type 0) → List A → Type 0
AllIn P [] = Unit {0}
AllIn P (x ∷ xs) = P x × AllIn P xs

-- R relates some item to one that stands later in the list
abbrev pub SomeThen : {A : Type 0} → (A → A → Type 0) → List A → Type 0
SomeThen R [] = ⊥
SomeThen R (x ∷ xs) = AnyIn (R x) xs ⊎ SomeThen R xs

-- the item stands in the list
abbrev pub Has : {A : Type 0} → List A → A → Type 0
Has xs x = AnyIn (λ y. y ≡ x) xs

-- each item of the one list is in the other
abbrev pub IsWithin : {A : Type 0} → List A → List A → Type 0
IsWithin xs ys = AllIn (Has ys) xs

-- R relates each item to each one that stands later in the list
abbrev pub EachThen : {A : Type 0} → (A → A → Type 0) → List A → Type 0
EachThen R [] = Unit {0}
EachThen R (x ∷ xs) = AllIn (R x) xs × EachThen R xs

-- no item stands twice in the list
abbrev pub Distinct : {A : Type 0} → List A → Type 0
Distinct xs = EachThen (λ x y. ¬ (x ≡ y)) xs

-- the one list is a front of the other
abbrev pub IsFront : {A : Type 0} → List A → List A → Type 0
IsFront {A} front whole = (rest : List A) × (front ++ rest ≡ whole)

-- R relates the items at each place, and the lists are equally long
abbrev pub Pairwise : {A B : Type 0} → (A → B → Type 0) → List A → List B → Type 0
Pairwise R [] [] = Unit {0}
Pairwise R [] (y ∷ ys) = ⊥
Pairwise R (x ∷ xs) [] = ⊥
Pairwise R (x ∷ xs) (y ∷ ys) = R x y × Pairwise R xs ys

-- it is decided whether P holds
abbrev pub Either : Type 0 → Type 0
Either P = P ⊎ ¬ P
