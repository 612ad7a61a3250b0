-- The first line of bytes, and the lines after it.
use Rattle.std.proofs.Common.{◌≡◌, ℕ, suc, ◌+◌, ◌<◌, ◌≤◌, Bool, true, false, not, cond, ◌==◌, nat_lt, List, [], ◌∷◌, length, take, drop, Option, Some, None, ◌⊎◌, inl, inr, refl, ap, arith}
use Rattle.std.proofs.lemmas.Bool.{false_from_ne_true}
use Rattle.std.proofs.lemmas.Bool.Decides.{nat_tests}
use Rattle.std.proofs.lemmas.List.Sums.{position_or_len_is}
use Rattle.std.specs.List.{onto_first, prefix_len, position}
use Rattle.memchr.specs.Find.{IsFirstByte, is_byte}
use Rattle.dt_text.specs.Lines.{cut_lines}

-- how many bytes stand before the first 10
before_end : List ℕ → ℕ
before_end bs = prefix_len (λ b. not (b == 10)) bs

step : (ends : Bool) (b : ℕ) (bs : List ℕ) (k : ℕ) → (k < length bs → cut_lines bs ≡ take k bs ∷ cut_lines (drop (suc k) bs))
    → cond (not ends) (1 + k) 0 < suc (length bs)
    → cond ends ([] ∷ cut_lines bs) (onto_first b (cut_lines bs)) ≡ take (cond (not ends) (1 + k) 0) (b ∷ bs) ∷ cut_lines (drop (suc (cond (not ends) (1 + k) 0)) (b ∷ bs))
step true b bs k ih h = refl
step false b bs k ih h =
    let e : 1 + k ≡ suc k = omega arith in
    rw (e, ih (omega arith)) refl

first_cut : (bs : List ℕ) → before_end bs < length bs → cut_lines bs ≡ take (before_end bs) bs ∷ cut_lines (drop (suc (before_end bs)) bs)
unfolding before_end
first_cut [] h = absurd (omega arith)
first_cut (b ∷ bs) h = step (b == 10) b bs (prefix_len (λ b. not (b == 10)) bs) (first_cut bs) h

last_step : (ends : Bool) (b : ℕ) (bs : List ℕ) (k : ℕ) → (bs ≡ [] ⊎ (cut_lines bs ≡ bs ∷ [])) → suc (length bs) ≤ cond (not ends) (1 + k) 0
    → cond ends ([] ∷ cut_lines bs) (onto_first b (cut_lines bs)) ≡ (b ∷ bs) ∷ []
last_step true b bs k ih h = absurd (omega arith)
last_step false b bs k (inl e) h = rw e refl
last_step false b bs k (inr e) h = rw e refl

only_cut : (bs : List ℕ) → length bs ≤ before_end bs → (bs ≡ []) ⊎ (cut_lines bs ≡ bs ∷ [])
unfolding before_end
only_cut [] h = inl refl
only_cut (b ∷ bs) h = inr (last_step (b == 10) b bs (prefix_len (λ b. not (b == 10)) bs) (only_cut bs (shorter (b == 10) (prefix_len (λ b. not (b == 10)) bs) (length bs) h)) h)
  where
    shorter : (ends : Bool) (k n : ℕ) → suc n ≤ cond (not ends) (1 + k) 0 → n ≤ k
    shorter true k n h = absurd (omega arith)
    shorter false k n h = omega arith

some_place : (a n k : ℕ) → cond (nat_lt a n) (Some a) None ≡ Some k → (a < n) × (a ≡ k)
some_place a n k h = grind (arith, nat_tests)

no_place : (a n : ℕ) → cond (nat_lt a n) (Some a) None ≡ None → n ≤ a
no_place a n h = grind (arith, nat_tests)

here : (a n k : ℕ) → a ≡ k → k < n → Some k ≡ cond (nat_lt a n) (Some a) None
here a n k is lt = grind (arith, nat_tests)

past : (a n : ℕ) → a ≡ n → None ≡ cond (nat_lt a n) (Some a) None
past a n is = grind (arith, nat_tests)

-- the first place with a byte 10 is the position of the first such byte
pub first_end : (bs : List ℕ) (r : Option ℕ) → IsFirstByte (is_byte 10) bs r → r ≡ position (λ b. b == 10) bs
first_end bs None nowhere =
    past _ _ (position_or_len_is (λ b. b == 10) bs (length bs) 0 (omega arith) (λ k lt. false_from_ne_true _ (nowhere k (omega arith) lt)) (λ lt. absurd (omega (arith, lt))))
first_end bs (Some k) at =
    here _ _ k (position_or_len_is (λ b. b == 10) bs k 0 (let lt : k < length bs = at.0.high in omega (arith, lt))
    (λ j lt. false_from_ne_true _ (at.0.before j (omega arith) lt)) (λ lt. at.1)) at.0.high

-- where a line ends at a place, the first line is what stands before it
pub cut_at_end : (bs : List ℕ) (k : ℕ) → position (λ b. b == 10) bs ≡ Some k → cut_lines bs ≡ take k bs ∷ cut_lines (drop (k + 1) bs)
unfolding before_end
cut_at_end bs k h =
    let at = some_place (before_end bs) (length bs) k h in
    let e : k + 1 ≡ suc k = omega arith in
    rw (e, ← at.1) (first_cut bs at.0)

-- where none does, bytes are one line
pub cut_without_end : (bs : List ℕ) → 0 < length bs → position (λ b. b == 10) bs ≡ None → cut_lines bs ≡ bs ∷ []
unfolding before_end
cut_without_end bs some h = whole bs some (only_cut bs (no_place (before_end bs) (length bs) h))
  where
    whole : (bs : List ℕ) → 0 < length bs → (bs ≡ []) ⊎ (cut_lines bs ≡ bs ∷ []) → cut_lines bs ≡ bs ∷ []
    whole bs some (inl e) = absurd (omega (arith, ap length e))
    whole bs some (inr e) = e
