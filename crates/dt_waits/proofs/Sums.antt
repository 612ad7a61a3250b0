-- Sums over lists of entries: of a part of the list, and of terms that count.
use Rattle.std.proofs.Common.{◌≡◌, ◌+◌, ◌⊎◌, ◌∙◌, ℕ, suc, Bool, true, false, ◌&&◌, ◌||◌, ◌==◌, not, if◌then◌else◌, List, [], ◌∷◌}
use Rattle.std.proofs.Common.{length, filter, refl, sym, ap, ap₂, inl, inr, eqb-true, eq-eqb, arith}
use Rattle.std.specs.List.{list_any, sum_by}
use Rattle.std.proofs.lemmas.Bool.{cases_Bool, false_from_ne_true}
use Rattle.std.proofs.lemmas.List.Sums.{sum_by-cons}
use Rattle.dt_lists.specs.Lists.{Has, Distinct}
use Rattle.dt_lists.proofs.Callers.{all_get, any_get, any_of_test, sum_of_sums}

-- a sum over what is kept, where the terms of all else are zero
pub sum_kept : {A : Type 0} (f : A → ℕ) (keep : A → Bool) (xs : List A) → ((x : A) → Has xs x → keep x ≡ false → f x ≡ 0) → sum_by f (filter keep xs) ≡ sum_by f xs
sum_kept f keep [] none = refl
sum_kept f keep (x ∷ xs) none = by (sum_kept f keep xs (λ y h. none y (inr h))) (cases_Bool (keep x))
  where
    by : sum_by f (filter keep xs) ≡ sum_by f xs → (keep x ≡ true) ⊎ (keep x ≡ false) → sum_by f (filter keep (x ∷ xs)) ≡ sum_by f (x ∷ xs)
    by rest (inl kept) = rw kept (sum_by-cons f x (filter keep xs) ∙ ap (λ n. f x + n) rest ∙ sym (sum_by-cons f x xs))
    by rest (inr gone) = rw gone (rest ∙ zero_first (f x) (sum_by f xs) (none x (inl refl) gone) ∙ sym (sum_by-cons f x xs))
      where
        zero_first : (m n : ℕ) → m ≡ 0 → n ≡ m + n
        zero_first m n e = omega (arith, e)

-- a sum of ones counts
pub sum_of_ones : {A : Type 0} (a b : A → Bool) (xs : List A) → sum_by (λ x. if a x then (if b x then 1 else 0) else 0) xs ≡ length (filter a (filter b xs))
sum_of_ones a b [] = refl
sum_of_ones a b (x ∷ xs) = by (sum_of_ones a b xs) (cases_Bool (b x)) (cases_Bool (a x))
  where
    one_more : (n m : ℕ) → n ≡ m → 1 + n ≡ suc m
    one_more n m e = omega (arith, e)

    none_more : (n m : ℕ) → n ≡ m → 0 + n ≡ m
    none_more n m e = omega (arith, e)

    by : sum_by (λ x. if a x then (if b x then 1 else 0) else 0) xs ≡ length (filter a (filter b xs)) → (b x ≡ true) ⊎ (b x ≡ false) → (a x ≡ true) ⊎ (a x ≡ false)
        → sum_by (λ x. if a x then (if b x then 1 else 0) else 0) (x ∷ xs) ≡ length (filter a (filter b (x ∷ xs)))
    by rest (inl p) (inl q) = sum_by-cons _ x xs ∙ rw (q, p, q) (one_more _ _ rest)
    by rest (inl p) (inr q) = sum_by-cons _ x xs ∙ rw (q, p, q) (none_more _ _ rest)
    by rest (inr p) (inl q) = sum_by-cons _ x xs ∙ rw (q, p) (none_more _ _ rest)
    by rest (inr p) (inr q) = sum_by-cons _ x xs ∙ rw (q, p) (none_more _ _ rest)

-- filters twice
pub filter_both : {A : Type 0} (p q : A → Bool) (xs : List A) → filter p (filter q xs) ≡ filter (λ x. p x && q x) xs
filter_both p q [] = refl
filter_both p q (x ∷ xs) = by (filter_both p q xs) (cases_Bool (q x)) (cases_Bool (p x))
  where
    by : filter p (filter q xs) ≡ filter (λ x. p x && q x) xs → (q x ≡ true) ⊎ (q x ≡ false) → (p x ≡ true) ⊎ (p x ≡ false) → filter p (filter q (x ∷ xs)) ≡ filter (λ x. p x && q x) (x ∷ xs)
    by rest (inl a) (inl b) = rw (a, b) (ap (λ l. x ∷ l) rest)
    by rest (inl a) (inr b) = rw (a, b) rest
    by rest (inr a) (inl b) = rw (a, b) rest
    by rest (inr a) (inr b) = rw (a, b) rest

pub filter_same : {A : Type 0} (p q : A → Bool) (xs : List A) → ((x : A) → Has xs x → p x ≡ q x) → filter p xs ≡ filter q xs
filter_same p q [] e = refl
filter_same p q (x ∷ xs) e = by (filter_same p q xs (λ y h. e y (inr h))) (cases_Bool (q x))
  where
    by : filter p xs ≡ filter q xs → (q x ≡ true) ⊎ (q x ≡ false) → filter p (x ∷ xs) ≡ filter q (x ∷ xs)
    by rest (inl a) = rw (e x (inl refl), a) (ap (λ l. x ∷ l) rest)
    by rest (inr a) = rw (e x (inl refl), a) rest

-- a choice that does not depend on the item
pub sum_chosen : {A : Type 0} (b : Bool) (f : A → ℕ) (xs : List A) → sum_by (λ x. if b then f x else 0) xs ≡ (if b then sum_by f xs else 0)
sum_chosen true f xs = refl
sum_chosen false f xs = sum_of_zeros xs
  where
    sum_of_zeros : {A : Type 0} (xs : List A) → sum_by (λ x. 0) xs ≡ 0
    sum_of_zeros [] = refl
    sum_of_zeros (x ∷ xs) = sum_of_zeros xs

pub chosen_turned : (a b : Bool) (n : ℕ) → (if a then (if b then n else 0) else 0) ≡ (if b then (if a then n else 0) else 0)
chosen_turned true true n = refl
chosen_turned true false n = refl
chosen_turned false true n = refl
chosen_turned false false n = refl

-- a sum over two lists, in either order
pub sum_swapped : {A B : Type 0} (f : A → B → ℕ) (xs : List A) (ys : List B) → sum_by (λ x. sum_by (f x) ys) xs ≡ sum_by (λ y. sum_by (λ x. f x y) xs) ys
sum_swapped f [] ys = sym (sum_chosen false (λ y. 0) ys)
sum_swapped f (x ∷ xs) ys =
    sum_by-cons (λ x. sum_by (f x) ys) x xs ∙ ap (λ n. sum_by (f x) ys + n) (sum_swapped f xs ys)
    ∙ sym (sum_of_sums (λ y. sum_by (λ x. f x y) (x ∷ xs)) (f x) (λ y. sum_by (λ x. f x y) xs) ys (λ y h. sum_by-cons (λ x. f x y) x xs))

-- a sum over those that pass
pub sum_of_passing : {A : Type 0} (p : A → Bool) (g : A → ℕ) (xs : List A) → sum_by (λ x. if p x then g x else 0) xs ≡ sum_by g (filter p xs)
sum_of_passing p g [] = refl
sum_of_passing p g (x ∷ xs) = sum_by-cons _ x xs ∙ by (sum_of_passing p g xs) (cases_Bool (p x))
  where
    none_more : (n m : ℕ) → n ≡ m → 0 + n ≡ m
    none_more n m e = omega (arith, e)

    by : sum_by (λ x. if p x then g x else 0) xs ≡ sum_by g (filter p xs) → (p x ≡ true) ⊎ (p x ≡ false) → (if p x then g x else 0) + sum_by (λ x. if p x then g x else 0) xs ≡ sum_by g (filter p (x ∷ xs))
    by rest (inl e) = rw e (ap (λ n. g x + n) rest ∙ sym (sum_by-cons g x (filter p xs)))
    by rest (inr e) = rw e (none_more _ _ rest)

-- a sum over those whose key is one of these, key by key
pub sum_grouped : {A : Type 0} (key : A → ℕ) (g : A → ℕ) (xs : List A) (keys : List ℕ) → Distinct keys
    → sum_by (λ x. if list_any (λ k. k == key x) keys then g x else 0) xs ≡ sum_by (λ k. sum_by g (filter (λ x. key x == k) xs)) keys
sum_grouped key g xs [] once = sum_chosen false (λ x. 0) xs
sum_grouped key g xs (k ∷ keys) once =
    sum_of_sums _ (λ x. if key x == k then g x else 0) (λ x. if list_any (λ k. k == key x) keys then g x else 0) xs (λ x h. one_of x (cases_Bool (key x == k)) (cases_Bool (list_any (λ k. k == key x) keys)))
    ∙ ap₂ ◌+◌ (sum_of_passing (λ x. key x == k) g xs) (sum_grouped key g xs keys once.1)
    ∙ sym (sum_by-cons (λ k. sum_by g (filter (λ x. key x == k) xs)) k keys)
  where
    turned : (a b : ℕ) (c : Bool) → (a == b) ≡ c → (b == a) ≡ c
    turned a b true e = eq-eqb b a (sym (eqb-true a b e))
    turned a b false e = false_from_ne_true (b == a) (λ f. let t : (a == b) ≡ true = eq-eqb a b (sym (eqb-true b a f)) in cc)

    some_zero : (n : ℕ) → n ≡ n + 0
    some_zero n = omega arith

    zero_some : (n : ℕ) → n ≡ 0 + n
    zero_some n = omega arith

    one_of : (x : _) → (key x == k ≡ true) ⊎ (key x == k ≡ false) → (list_any (λ k. k == key x) keys ≡ true) ⊎ (list_any (λ k. k == key x) keys ≡ false)
        → (if (k == key x) || list_any (λ k. k == key x) keys then g x else 0) ≡ (if key x == k then g x else 0) + (if list_any (λ k. k == key x) keys then g x else 0)
    one_of x (inl e) (inl f) =
        let r : (j : ℕ) × Has keys j × (j == key x ≡ true) = any_get _ keys (any_of_test (λ k. k == key x) keys f) in
        absurd (all_get _ keys once.0 r.0 r.1 (sym (eqb-true (key x) k e) ∙ sym (eqb-true r.0 (key x) r.2)))
    one_of x (inl e) (inr f) = rw (turned (key x) k true e, e, f) (some_zero (g x))
    one_of x (inr e) (inl f) = rw (turned (key x) k false e, e, f) (zero_some (g x))
    one_of x (inr e) (inr f) = rw (turned (key x) k false e, e, f) refl

-- of those that pass the one test, some pass the other one, and the rest don't
pub length_split : {A : Type 0} (p q : A → Bool) (xs : List A) → length (filter p xs) ≡ length (filter (λ x. p x && not (q x)) xs) + length (filter (λ x. p x && q x) xs)
length_split p q [] = refl
length_split p q (x ∷ xs) = by (length_split p q xs) (cases_Bool (p x)) (cases_Bool (q x))
  where
    left : (a b c : ℕ) → a ≡ b + c → suc a ≡ suc b + c
    left a b c e = omega (arith, e)

    right : (a b c : ℕ) → a ≡ b + c → suc a ≡ b + suc c
    right a b c e = omega (arith, e)

    by : length (filter p xs) ≡ length (filter (λ x. p x && not (q x)) xs) + length (filter (λ x. p x && q x) xs) → (p x ≡ true) ⊎ (p x ≡ false) → (q x ≡ true) ⊎ (q x ≡ false)
        → length (filter p (x ∷ xs)) ≡ length (filter (λ x. p x && not (q x)) (x ∷ xs)) + length (filter (λ x. p x && q x) (x ∷ xs))
    by rest (inl e) (inl f) = rw (e, f) (right _ _ _ rest)
    by rest (inl e) (inr f) = rw (e, f) (left _ _ _ rest)
    by rest (inr e) f = rw e rest
