-- Lists by the numbers of rows and granules: what they tell of each, as they get longer or one of their items is changed.
use Rattle.std.proofs.Common.{◌≡◌, ℕ, zero, suc, ◌<◌, List, [], ◌∷◌, ◌++◌, map, length, get_or, set, slice_index_or}
use Rattle.std.proofs.Common.{refl, ap, sym, arith, ◌∙◌}
use Rattle.std.proofs.lemmas.List.{get_or_read, get_or-set_same, length-map, map-set}
use Rattle.std.proofs.Math.ListN.{get_or-map}

-- what is said of an item of a list
pub told_at : {A B : Type 0} (xs : List A) (f : A → B) (i : ℕ) (x : A) (d : B) → i < length xs → x ≡ slice_index_or xs i x → f x ≡ get_or (map f xs) i d
told_at xs f i x d lt e = get_or_read (map f xs) i (f x) (rw (length-map xs f) lt) (ap f e ∙ sym (get_or-map f xs i x)) d

-- an item took the place of another: what is said of it, and of the others
pub told_here : {A B : Type 0} (xs : List A) (f : A → B) (i : ℕ) (x : A) (d : B) → i < length xs → get_or (map f (set xs i x)) i d ≡ f x
told_here xs f i x d lt = ap (λ l. get_or l i d) (map-set f xs i x) ∙ get_or-set_same (map f xs) i (f x) d (rw (length-map xs f) lt)

-- an empty list behind lists does not show
pub empty_behind : {A B : Type 0} (xs : List A) (f : A → List B) (x : A) (g : ℕ) → f x ≡ [] → get_or (map f (xs ++ x ∷ [])) g [] ≡ get_or (map f xs) g []
empty_behind [] f x zero e = e
empty_behind [] f x (suc g) e = refl
empty_behind (y ∷ ys) f x zero e = refl
empty_behind (y ∷ ys) f x (suc g) e = empty_behind ys f x g e

-- where there is room, there is a list
pub within_room : (rooms : List ℕ) (i : ℕ) → 0 < get_or rooms i 0 → i < length rooms
within_room [] i lt = absurd (omega (arith, lt))
within_room (r ∷ rooms) zero lt = omega arith
within_room (r ∷ rooms) (suc i) lt = let le : i < length rooms = within_room rooms i lt in omega (arith, le)

-- what is told past the end does not show behind the others
pub told_behind : {A : Type 0} (xs : List A) (d : A) (r : ℕ) → get_or (xs ++ d ∷ []) r d ≡ get_or xs r d
told_behind [] d zero = refl
told_behind [] d (suc r) = refl
told_behind (x ∷ xs) d zero = refl
told_behind (x ∷ xs) d (suc r) = told_behind xs d r
