-- What stands before an item of a list, and what a filter keeps of a list where it keeps all that stands before what it
-- keeps.
use Rattle.std.proofs.Common.{◌≡◌, ◌<◌, ◌⊎◌, ℕ, zero, suc, Bool, true, false, cond, List, [], ◌∷◌, ◌++◌, length, map, slice_get, Some, None, refl, sym, ap, subst, ◌∙◌, inl, inr, arith}
use Rattle.std.specs.Prelude.{filter, Option}
use Rattle.std.proofs.lemmas.Bool.{cases_Bool}
use Rattle.dt_lists.specs.Lists.{AllIn, SomeThen, Has, EachThen, Distinct, IsFront}
use Rattle.dt_lists.proofs.Words.{any_get, any_put, all_map, all_get, some_get, has_map}
use Rattle.dt_lists.proofs.Places.{has_place, place_in_longer}

-- a place where the item stands in the list
pub record Spot {A : Type 0} (xs : List A) (x : A) : Type 0 where
  pub front : List A
  pub rest : List A
  pub is : xs ≡ front ++ x ∷ rest

pub spot : {A : Type 0} (xs : List A) (x : A) → Has xs x → Spot xs x
spot [] x h = absurd h
spot (y ∷ ys) x (inl e) = record { front = []; rest = ys; is = ap (λ z. z ∷ ys) e }
spot (y ∷ ys) x (inr h) = let s : Spot ys x = spot ys x h in record { front = y ∷ s.front; rest = s.rest; is = ap (λ l. y ∷ l) s.is }

pub has_middle : {A : Type 0} (front : List A) (x : A) (rest : List A) → Has (front ++ x ∷ rest) x
has_middle [] x rest = inl refl
has_middle (y ∷ front) x rest = inr (has_middle front x rest)

pub spot_has : {A : Type 0} (xs : List A) (x : A) → Spot xs x → Has xs x
spot_has xs x s = subst (λ l. Has l x) (sym s.is) (has_middle s.front x s.rest)

-- in a list where no item stands twice, what stands before an item is in the part before it
pub before_has : {A : Type 0} (u t : A) (front rest : List A) → Distinct (front ++ t ∷ rest) → SomeThen (λ a b. (a ≡ u) × (b ≡ t)) (front ++ t ∷ rest) → Has front u
before_has u t [] rest once (inl e) =
    let r : (y : _) × Has rest y × ((t ≡ u) × (y ≡ t)) = any_get _ rest e in
    absurd (all_get _ rest once.0 r.0 r.1 (sym r.2.1))
before_has u t [] rest once (inr s) =
    let r : (a b : _) × Has rest a × Has rest b × ((a ≡ u) × (b ≡ t)) = some_get _ rest s in
    absurd (all_get _ rest once.0 r.1 r.3 (sym r.4.1))
before_has u t (a ∷ front) rest once (inl e) = let r : (y : _) × Has (front ++ t ∷ rest) y × ((a ≡ u) × (y ≡ t)) = any_get _ (front ++ t ∷ rest) e in inl r.2.0
before_has u t (a ∷ front) rest once (inr s) = inr (before_has u t front rest once.1 s)

pub has_before : {A : Type 0} (u t : A) (front rest : List A) → Has front u → SomeThen (λ a b. (a ≡ u) × (b ≡ t)) (front ++ t ∷ rest)
has_before u t [] rest h = absurd h
has_before u t (a ∷ front) rest (inl e) = inl (any_put _ (front ++ t ∷ rest) t (has_middle front t rest) (e, refl))
has_before u t (a ∷ front) rest (inr h) = inr (has_before u t front rest h)

-- what holds of neighbours and is transitive holds of each item and each later one
pub each_of_steps : {A : Type 0} (R : A → A → Type 0) → ((x y z : A) → R x y → R y z → R x z) → (xs : List A)
    → ((i : ℕ) (a b : A) → slice_get xs i ≡ Some a → slice_get xs (suc i) ≡ Some b → R a b) → EachThen R xs
each_of_steps R trans [] step = tt
each_of_steps R trans (x ∷ []) step = (tt, tt)
each_of_steps R trans (x ∷ y ∷ ys) step =
    let later : EachThen R (y ∷ ys) = each_of_steps R trans (y ∷ ys) (λ i a b p q. step (suc i) a b p q) in
    let next : R x y = step zero x y refl refl in
    ((next, all_map (R y) (R x) ys (λ z r. trans x y z next r) later.0), later)

pub each_at : {A : Type 0} (R : A → A → Type 0) (xs : List A) (i j : ℕ) (a b : A) → EachThen R xs → i < j → slice_get xs i ≡ Some a → slice_get xs j ≡ Some b → R a b
each_at R [] i j a b each lt p q = cc
each_at R (x ∷ xs) zero zero a b each lt p q = absurd (omega arith)
each_at R (x ∷ xs) zero (suc j) a b each lt p q = let same : x ≡ a = cc in subst (λ c. R c b) same (all_get (R x) xs each.0 b (has_place xs j b q))
each_at R (x ∷ xs) (suc i) zero a b each lt p q = absurd (omega arith)
each_at R (x ∷ xs) (suc i) (suc j) a b each lt p q = each_at R xs i j a b each.1 (omega arith) p q

-- the item that is there, if it passes the test
abbrev pub if_passes : {A : Type 0} → (A → Bool) → Option A → Option A
if_passes test None = None
if_passes test (Some x) = cond (test x) (Some x) None

-- each item that stands before one that passes the test passes it too
abbrev pub PassesAtFront : {A : Type 0} → (A → Bool) → List A → Type 0
PassesAtFront test xs = EachThen (λ a b. test b ≡ true → test a ≡ true) xs

-- where no item passes, nothing is kept
pub filter_none : {A : Type 0} (test : A → Bool) (xs : List A) → AllIn (λ x. test x ≡ false) xs → filter test xs ≡ []
filter_none test [] all = refl
filter_none test (x ∷ xs) all = rw all.0 (filter_none test xs all.1)

none_passes : {A : Type 0} (test : A → Bool) (xs : List A) (i : ℕ) → AllIn (λ x. test x ≡ false) xs → if_passes test (slice_get xs i) ≡ None
none_passes test [] i all = refl
none_passes test (x ∷ xs) zero all = rw all.0
none_passes test (x ∷ xs) (suc i) all = none_passes test xs i all.1

fails_too : (a b : Bool) → a ≡ false → (b ≡ true → a ≡ true) → b ≡ false
fails_too a true n f = cc (n, f refl)
fails_too a false n f = refl

later_fail : {A : Type 0} (test : A → Bool) (x : A) (xs : List A) → test x ≡ false → AllIn (λ b. test b ≡ true → test x ≡ true) xs → AllIn (λ b. test b ≡ false) xs
later_fail test x xs n all = all_map _ _ xs (λ b f. fails_too (test x) (test b) n f) all

-- where what passes is a front, the item at a place of the filtered list is the one at that place, if it passes
pub get_filtered : {A : Type 0} (test : A → Bool) (xs : List A) (i : ℕ) → PassesAtFront test xs → slice_get (filter test xs) i ≡ if_passes test (slice_get xs i)
get_filtered test [] i front = refl
get_filtered test (x ∷ xs) i front = go i (cases_Bool (test x)) (λ j. get_filtered test xs j front.1)
  where
    go : (i : ℕ) → (test x ≡ true) ⊎ (test x ≡ false) → ((j : ℕ) → slice_get (filter test xs) j ≡ if_passes test (slice_get xs j)) → slice_get (filter test (x ∷ xs)) i ≡ if_passes test (slice_get (x ∷ xs) i)
    go zero (inl y) later = rw y
    go (suc i) (inl y) later = rw y (later i)
    go i (inr n) later = rw (n, filter_none test xs (later_fail test x xs n front.0)) (sym (none_passes test (x ∷ xs) i (n, later_fail test x xs n front.0)))

pub front_filtered : {A : Type 0} (test : A → Bool) (xs : List A) → PassesAtFront test xs → IsFront (filter test xs) xs
front_filtered test [] front = ([], refl)
front_filtered test (x ∷ xs) front = go (cases_Bool (test x)) (front_filtered test xs front.1)
  where
    go : (test x ≡ true) ⊎ (test x ≡ false) → IsFront (filter test xs) xs → IsFront (filter test (x ∷ xs)) (x ∷ xs)
    go (inl y) later = rw y (later.0, ap (λ l. x ∷ l) later.1)
    go (inr n) later = rw (n, filter_none test xs (later_fail test x xs n front.0)) (x ∷ xs, refl)

-- an item of a front stands at its place in the whole list
pub get_front : {A : Type 0} (xs ys : List A) (i : ℕ) (x : A) → IsFront xs ys → slice_get xs i ≡ Some x → slice_get ys i ≡ Some x
get_front xs ys i x f e = subst (λ l. slice_get l i ≡ Some x) f.1 (place_in_longer xs f.0 i x e)

pub get_seam : {A : Type 0} (xs : List A) (y : A) (ys : List A) → slice_get (xs ++ y ∷ ys) (length xs) ≡ Some y
get_seam [] y ys = refl
get_seam (x ∷ xs) y ys = get_seam xs y ys

-- what holds of the item at each place holds of each item
pub all_of_gets : {A : Type 0} (P : A → Type 0) (xs : List A) → ((i : ℕ) (x : A) → slice_get xs i ≡ Some x → P x) → AllIn P xs
all_of_gets P [] f = tt
all_of_gets P (x ∷ xs) f = (f zero x refl, all_of_gets P xs (λ i y e. f (suc i) y e))

-- items with one key are one item, where no key stands twice
pub same_by_key : {A B : Type 0} (f : A → B) (xs : List A) (x y : A) → Distinct (map f xs) → Has xs x → Has xs y → f x ≡ f y → x ≡ y
same_by_key f [] x y once a b e = absurd a
same_by_key f (z ∷ xs) x y once (inl a) (inl b) e = sym a ∙ b
same_by_key f (z ∷ xs) x y once (inl a) (inr b) e = absurd (all_get _ (map f xs) once.0 (f y) (has_map f xs y b) (ap f a ∙ e))
same_by_key f (z ∷ xs) x y once (inr a) (inl b) e = absurd (all_get _ (map f xs) once.0 (f x) (has_map f xs x a) (ap f b ∙ sym e))
same_by_key f (z ∷ xs) x y once (inr a) (inr b) e = same_by_key f xs x y once.1 a b e

-- what holds of each item and each later one rules out what holds of some item and a later one
pub some_each : {A : Type 0} (R S : A → A → Type 0) (xs : List A) → EachThen R xs → SomeThen S xs → ((x y : A) → R x y → ¬ (S x y)) → ⊥
some_each R S [] each s f = s
some_each R S (x ∷ xs) each (inl s) f = let r : (y : _) × Has xs y × S x y = any_get (S x) xs s in f x r.0 (all_get (R x) xs each.0 r.0 r.1) r.2
some_each R S (x ∷ xs) each (inr s) f = some_each R S xs each.1 s f
