-- Lists without repeats: how many items they have.
use Rattle.std.proofs.Common.{◌≡◌, ◌≢◌, ◌<◌, ◌≤◌, ◌∙◌, ℕ, zero, suc, List, [], ◌∷◌, ◌++◌, length, refl, sym, ap, subst, inl, inr, arith}
use Rattle.dt_lists.specs.Lists.{AllIn, Has, IsWithin, Distinct}
use Rattle.dt_lists.proofs.Decided.{either_nat}
use Rattle.dt_lists.proofs.Words.{all_get, all_map, all_put, each_append}

-- two different items make at least two
pub two_of_different : {A : Type 0} (xs : List A) (x y : A) → Has xs x → Has xs y → x ≢ y → 2 ≤ length xs
two_of_different [] x y hx hy ne = absurd hx
two_of_different (z ∷ []) x y (inl ex) (inl ey) ne = absurd (ne (cc))
two_of_different (z ∷ []) x y (inl ex) (inr hy) ne = absurd hy
two_of_different (z ∷ []) x y (inr hx) hy ne = absurd hx
two_of_different (z ∷ w ∷ ws) x y hx hy ne = omega arith

-- the list without one item of it
without : {A : Type 0} (ys : List A) (x : A) → Has ys x → (zs : List A) × (length ys ≡ suc (length zs)) × ((y : A) → Has ys y → y ≢ x → Has zs y)
without [] x h = absurd h
without (y ∷ ys) x (inl e) = (ys, refl, λ z k ne. elim k [ inl f ↦ absurd (ne (sym f ∙ e)) | inr m ↦ m ])
without (y ∷ ys) x (inr h) =
    let r : (zs : List _) × (length ys ≡ suc (length zs)) × ((z : _) → Has ys z → z ≢ x → Has zs z) = without ys x h in
    (y ∷ r.0, ap suc r.1, λ z k ne. elim k [ inl f ↦ inl f | inr m ↦ inr (r.2 z m ne) ])

-- different items that all are in a list are at most as many as it has
pub distinct_within : {A : Type 0} (xs ys : List A) → Distinct xs → IsWithin xs ys → length xs ≤ length ys
distinct_within [] ys d w = omega arith
distinct_within (x ∷ xs) ys d w =
    let r : (zs : List _) × (length ys ≡ suc (length zs)) × ((y : _) → Has ys y → y ≢ x → Has zs y) = without ys x w.0 in
    let below : length xs ≤ length r.0 = distinct_within xs r.0 d.1 (all_put (Has r.0) xs (λ y h. r.2 y (all_get (Has ys) xs w.1 y h) (λ e. all_get _ xs d.0 y h (sym e)))) in
    omega (arith, r.1, below)

-- the numbers below a bound
abbrev below : ℕ → List ℕ
below zero = []
below (suc n) = n ∷ below n

below_has : (n v : ℕ) → v < n → Has (below n) v
below_has zero v lt = absurd (omega arith)
below_has (suc n) v lt = elim (either_nat n v) [ inl e ↦ inl e | inr ne ↦ inr (below_has n v (omega (arith, ne))) ]

below_length : (n : ℕ) → length (below n) ≡ n
below_length zero = refl
below_length (suc n) = ap suc (below_length n)

-- different numbers below a bound are at most that many
pub few_below : (n : ℕ) (xs : List ℕ) → Distinct xs → AllIn (λ v. v < n) xs → length xs ≤ n
few_below n xs d within = subst (λ m. length xs ≤ m) (below_length n) (distinct_within xs (below n) d (all_map _ _ xs (λ v lt. below_has n v lt) within))

-- an item that is not in the list may follow it
pub distinct_push : {A : Type 0} (xs : List A) (x : A) → Distinct xs → ¬ (Has xs x) → Distinct (xs ++ x ∷ [])
distinct_push xs x d n = each_append _ xs (x ∷ []) d (all_put _ xs (λ y h. ((λ e. n (subst (Has xs) e h)), tt))) (tt, tt)
