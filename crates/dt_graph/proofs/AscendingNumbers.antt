-- Numbers in ascending order: those from one number on, below another one, are at most as many as the two are apart; and they
-- are that many just where each of them is there.
use Rattle.std.proofs.Common.{◌≡◌, ◌+◌, ◌<◌, ◌≤◌, ◌⊎◌, ℕ, zero, suc, List, [], ◌∷◌, length, slice_get, Some, inl, inr, arith}
use Rattle.dt_lists.specs.Lists.{AllIn, Has, EachThen}
use Rattle.dt_lists.proofs.Callers.{all_get, all_map, either_nat, some_same}

-- the later ones are above the first
later_above : (x : ℕ) (xs : List ℕ) → AllIn (λ v. x < v) xs → AllIn (λ v. suc x ≤ v) xs
later_above x xs all = all_map _ _ xs (λ v lt. above v lt) all
  where
    above : (v : ℕ) → x < v → suc x ≤ v
    above v lt = omega (arith, lt)

pub few_ascending : (a b : ℕ) (xs : List ℕ) → EachThen ◌<◌ xs → AllIn (λ v. a ≤ v) xs → AllIn (λ v. v < b) xs → a ≤ b → length xs + a ≤ b
few_ascending a b [] up low high le = zero_more a b le
  where
    zero_more : (a b : ℕ) → a ≤ b → 0 + a ≤ b
    zero_more a b le = omega (arith, le)
few_ascending a b (x ∷ xs) up low high le = one_more (length xs) (few_ascending (suc x) b xs up.1 (later_above x xs up.0) high.1 (next x high.0))
  where
    next : (x : ℕ) → x < b → suc x ≤ b
    next x lt = omega (arith, lt)

    one_more : (n : ℕ) → n + suc x ≤ b → suc n + a ≤ b
    one_more n f = omega (arith, f, low.0)

pub full_has : (a b : ℕ) (xs : List ℕ) → EachThen ◌<◌ xs → AllIn (λ v. a ≤ v) xs → AllIn (λ v. v < b) xs → length xs + a ≡ b → (p : ℕ) → a ≤ p → p < b → Has xs p
full_has a b [] up low high full p le lt = absurd (none a b p full le lt)
  where
    none : (a b p : ℕ) → 0 + a ≡ b → a ≤ p → p < b → ⊥
    none a b p e le lt = omega (arith, e, le, lt)
full_has a b (x ∷ xs) up low high full p le lt = at (either_nat x p) (full_has (suc x) b xs up.1 (later_above x xs up.0) high.1 rest)
  where
    few : length xs + suc x ≤ b
    few = few_ascending (suc x) b xs up.1 (later_above x xs up.0) high.1 (next x high.0)
      where
        next : (x : ℕ) → x < b → suc x ≤ b
        next x lt = omega (arith, lt)

    first : x ≡ a
    first = same (length xs) few full low.0
      where
        same : (n : ℕ) → n + suc x ≤ b → suc n + a ≡ b → a ≤ x → x ≡ a
        same n f e l = omega (arith, f, e, l)

    rest : length xs + suc x ≡ b
    rest = same (length xs) few full low.0
      where
        same : (n : ℕ) → n + suc x ≤ b → suc n + a ≡ b → a ≤ x → n + suc x ≡ b
        same n f e l = omega (arith, f, e, l)

    at : (x ≡ p) ⊎ ¬ (x ≡ p) → ((p : ℕ) → suc x ≤ p → p < b → Has xs p) → Has (x ∷ xs) p
    at (inl e) more = inl e
    at (inr ne) more = inr (more p (above x p first le ne) lt)
      where
        above : (x p : ℕ) → x ≡ a → a ≤ p → ¬ (x ≡ p) → suc x ≤ p
        above x p e l n = grind (arith, e, l, n)

pub full_length : (a b : ℕ) (xs : List ℕ) → EachThen ◌<◌ xs → AllIn (λ v. a ≤ v) xs → AllIn (λ v. v < b) xs → a ≤ b → ((p : ℕ) → a ≤ p → p < b → Has xs p) → length xs + a ≡ b
full_length a b [] up low high le all = by (either_nat a b)
  where
    by : (a ≡ b) ⊎ ¬ (a ≡ b) → 0 + a ≡ b
    by (inl e) = omega (arith, e)
    by (inr ne) = absurd (all a (least a) (less a b le ne))
      where
        least : (a : ℕ) → a ≤ a
        least a = omega arith

        less : (a b : ℕ) → a ≤ b → ¬ (a ≡ b) → a < b
        less a b le ne = grind (arith, le, ne)
full_length a b (x ∷ xs) up low high le all = joined (length xs) first (full_length (suc x) b xs up.1 (later_above x xs up.0) high.1 (next x high.0)
    (λ p l lt. elim (all p (below p l) lt) [ inl e ↦ absurd (apart p l e) | inr h ↦ h ]))
  where
    next : (x : ℕ) → x < b → suc x ≤ b
    next x lt = omega (arith, lt)

    below : (p : ℕ) → suc x ≤ p → a ≤ p
    below p l = omega (arith, l, low.0)

    apart : (p : ℕ) → suc x ≤ p → x ≡ p → ⊥
    apart p l e = omega (arith, l, e)

    first : x ≡ a
    first = elim (all a (least a) (within a x low.0 high.0)) [ inl e ↦ e | inr h ↦ absurd (over a x low.0 (all_get (λ v. x < v) xs up.0 a h)) ]
      where
        least : (a : ℕ) → a ≤ a
        least a = omega arith

        within : (a x : ℕ) → a ≤ x → x < b → a < b
        within a x l lt = omega (arith, l, lt)

        over : (a x : ℕ) → a ≤ x → x < a → ⊥
        over a x l lt = omega (arith, l, lt)

    joined : (n : ℕ) → x ≡ a → n + suc x ≡ b → suc n + a ≡ b
    joined n e f = omega (arith, e, f)

-- no number is less than its place
pub place_below : (a : ℕ) (xs : List ℕ) → EachThen ◌<◌ xs → AllIn (λ v. a ≤ v) xs → (i v : ℕ) → slice_get xs i ≡ Some v → i + a ≤ v
place_below a [] up low i v e = cc
place_below a (x ∷ xs) up low zero v e = first (some_same {x = x} {y = v} e)
  where
    first : x ≡ v → zero + a ≤ v
    first f = omega (arith, f, low.0)
place_below a (x ∷ xs) up low (suc i) v e = more (place_below (suc x) xs up.1 (later_above x xs up.0) i v e)
  where
    more : i + suc x ≤ v → suc i + a ≤ v
    more f = omega (arith, f, low.0)
