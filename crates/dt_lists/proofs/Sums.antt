-- Sums over lists: of images and of sums, where one item changes, and of two lists with the same items.
use Rattle.std.proofs.Common.{◌≡◌, ◌≢◌, ℕ, ◌+◌, ◌≤◌, List, [], ◌∷◌, map, sum_by, refl, sym, ap, ap₂, inl, inr, arith, ◌∙◌}
use Rattle.std.proofs.lemmas.List.Sums.{sum_by-cons}
use Rattle.dt_lists.specs.Lists.{Distinct, Has}
use Rattle.dt_lists.proofs.Words.{all_get, all_put}

-- a sum over images
pub sum_mapped : {A B : Type 0} (f : B → ℕ) (h : A → B) (xs : List A) → sum_by f (map h xs) ≡ sum_by (λ x. f (h x)) xs
sum_mapped f h [] = refl
sum_mapped f h (x ∷ xs) = sum_by-cons f (h x) (map h xs) ∙ ap (λ n. f (h x) + n) (sum_mapped f h xs) ∙ sym (sum_by-cons (λ x. f (h x)) x xs)

-- terms that are equal
pub sum_same : {A : Type 0} (f g : A → ℕ) (xs : List A) → ((x : A) → Has xs x → f x ≡ g x) → sum_by f xs ≡ sum_by g xs
sum_same f g [] e = refl
sum_same f g (x ∷ xs) e = sum_by-cons f x xs ∙ ap₂ ◌+◌ (e x (inl refl)) (sum_same f g xs (λ y h. e y (inr h))) ∙ sym (sum_by-cons g x xs)

-- terms that are sums
pub sum_of_sums : {A : Type 0} (f g h : A → ℕ) (xs : List A) → ((x : A) → Has xs x → f x ≡ g x + h x) → sum_by f xs ≡ sum_by g xs + sum_by h xs
sum_of_sums f g h [] e = omega arith
sum_of_sums f g h (x ∷ xs) e =
    sum_by-cons f x xs ∙ joined (f x) (g x) (h x) (sum_by f xs) (sum_by g xs) (sum_by h xs) (e x (inl refl)) (sum_of_sums f g h xs (λ y k. e y (inr k)))
    ∙ sym (ap₂ ◌+◌ (sum_by-cons g x xs) (sum_by-cons h x xs))
  where
    joined : (a b c s t u : ℕ) → a ≡ b + c → s ≡ t + u → a + s ≡ (b + t) + (c + u)
    joined a b c s t u p q = omega (arith, p, q)

-- a sum of things of which one has changed
pub sum_changes : {X : Type 0} (f g : X → ℕ) (xs : List X) (q : X) → Distinct xs → Has xs q → ((x : X) → x ≢ q → g x ≡ f x) → sum_by g xs + f q ≡ sum_by f xs + g q
sum_changes f g [] q once there same = absurd there
sum_changes f g (x ∷ xs) q once (inl e) same =
    let rest = sum_same g f xs (λ y h. same y (λ is. all_get _ xs once.0 y h (e ∙ sym is))) in
    let first : f x ≡ f q = ap f e in
    let now : g x ≡ g q = ap g e in
    omega (arith, rest, first, now, sum_by-cons f x xs, sum_by-cons g x xs)
sum_changes f g (x ∷ xs) q once (inr h) same =
    let rest = sum_changes f g xs q once.1 h same in
    let first : g x ≡ f x = same x (λ is. all_get _ xs once.0 q h is) in
    omega (arith, rest, first, sum_by-cons f x xs, sum_by-cons g x xs)

-- no item of a sum is above it
pub within_sum : {X : Type 0} (f : X → ℕ) (xs : List X) (q : X) → Has xs q → f q ≤ sum_by f xs
within_sum f [] q there = absurd there
within_sum f (x ∷ xs) q (inl e) = let is : f x ≡ f q = ap f e in omega (arith, is, sum_by-cons f x xs)
within_sum f (x ∷ xs) q (inr h) = omega (arith, within_sum f xs q h, sum_by-cons f x xs)

-- a list without one item of it
pub record Without {X : Type 0} (f : X → ℕ) (xs : List X) (y : X) : Type 0 where
  pub rest : List X
  pub sum : sum_by f xs ≡ f y + sum_by f rest
  pub once : Distinct rest
  pub within : (x : X) → Has rest x → Has xs x × (x ≢ y)
  pub others : (x : X) → Has xs x → x ≢ y → Has rest x

without_item : {X : Type 0} (f : X → ℕ) (xs : List X) (y : X) → Distinct xs → Has xs y → Without f xs y
without_item f [] y once there = absurd there
without_item f (x ∷ xs) y once (inl e) = record {
  rest = xs;
  sum = sum_by-cons f x xs ∙ ap (λ n. n + sum_by f xs) (ap f e);
  once = once.1;
  within = λ z h. (inr h, λ is. all_get _ xs once.0 z h (e ∙ sym is));
  others = λ z h other. elim h [ inl is ↦ absurd (other (sym is ∙ e)) | inr later ↦ later ];
}
without_item f (x ∷ xs) y once (inr h) =
    let w = without_item f xs y once.1 h in
    record {
      rest = x ∷ w.rest;
      sum = let first = sum_by-cons f x xs in let next = sum_by-cons f x w.rest in omega (arith, w.sum, first, next);
      once = (all_put _ w.rest (λ z k. all_get _ xs once.0 z (w.within z k).0), w.once);
      within = λ z k. elim k [
        | inl is ↦ (inl is, λ same. all_get _ xs once.0 y h (is ∙ same))
        | inr later ↦ (inr (w.within z later).0, (w.within z later).1)
      ];
      others = λ z k other. elim k [ inl is ↦ inl is | inr later ↦ inr (w.others z later other) ];
    }

-- of two lists without repeats, of which the one has all items of the other and beside them only things that count nothing, the
-- sums are the same
pub same_sums : {X : Type 0} (f : X → ℕ) (xs ys : List X) → Distinct xs → Distinct ys → ((y : X) → Has ys y → Has xs y) → ((x : X) → Has xs x → ¬ (Has ys x) → f x ≡ 0)
    → sum_by f xs ≡ sum_by f ys
same_sums f xs [] once_xs once_ys all nothing = none xs (λ x h. nothing x h (λ e. e))
  where
    none : (zs : List _) → ((z : _) → Has zs z → f z ≡ 0) → sum_by f zs ≡ 0
    none [] each = refl
    none (z ∷ zs) each = let rest = none zs (λ y h. each y (inr h)) in omega (arith, rest, each z (inl refl), sum_by-cons f z zs)
same_sums f xs (y ∷ ys) once_xs once_ys all nothing =
    let w = without_item f xs y once_xs (all y (inl refl)) in
    let rest = same_sums f w.rest ys w.once once_ys.1
    (λ z h. w.others z (all z (inr h)) (λ is. all_get _ ys once_ys.0 z h (sym is)))
    (λ x h gone. nothing x (w.within x h).0 (λ k. elim k [ inl is ↦ (w.within x h).1 (sym is) | inr later ↦ gone later ])) in
    omega (arith, w.sum, rest, sum_by-cons f y ys)
