-- Numbers in a row: what holds of each, when what is made of them is distinct, which stand among them, and how often.
use Rattle.std.proofs.Common.{◌≡◌, ◌≢◌, ℕ, zero, suc, ◌+◌, ◌<◌, ◌≤◌, Bool, true, false, cond, ◌==◌, [], ◌∷◌, ◌++◌, map, refl, sym, ap, ◌∙◌, inl, inr, arith}
use Rattle.std.specs.List.{range_with_len, count_by, list_all}
use Rattle.std.proofs.lemmas.List.Sums.{sum_by-cons}
use Rattle.std.proofs.lemmas.List.FromFn.{map-range_with_len_more}
use Rattle.std.proofs.lemmas.List.{map-id}
use Rattle.std.proofs.lemmas.Bool.{and_parts, cases_lt}
use Rattle.std.proofs.lemmas.Bool.Decides.{nat_tests}
use Rattle.dt_lists.specs.Lists.{AllIn, Distinct, Has}

-- what holds of each number of a row
pub all_in_row : (P : ℕ → Type 0) (a n : ℕ) → ((q : ℕ) → a ≤ q → q < a + n → P q) → AllIn P (range_with_len a n)
all_in_row P a zero each = tt
all_in_row P a (suc n) each = (each a (omega arith) (omega arith), all_in_row P (a + 1) n (λ q low high. each q (omega arith) (omega arith)))

-- where a test that computes passes all, it passes each
pub each_passes : (test : ℕ → Bool) (a n : ℕ) → list_all test (range_with_len a n) ≡ true → (q : ℕ) → a ≤ q → q < a + n → test q ≡ true
each_passes test a zero all q low high = absurd (omega arith)
each_passes test a (suc n) all q low high =
    let two : (test a ≡ true) × (list_all test (range_with_len (a + 1) n) ≡ true) = and_parts (test a) (list_all test (range_with_len (a + 1) n)) all in
    by (q == a) refl two.0 (λ above. each_passes test (a + 1) n two.1 q above (omega arith))
  where
    by : (same : Bool) → (q == a) ≡ same → test a ≡ true → (a + 1 ≤ q → test q ≡ true) → test q ≡ true
    by true e here later = let is : q ≡ a = grind (arith, nat_tests) in ap test is ∙ here
    by false e here later = later (grind (arith, nat_tests))

-- different numbers make different things
pub distinct_row : {B : Type 0} (f : ℕ → B) (a n : ℕ) → ((p q : ℕ) → a ≤ p → p < q → q < a + n → f p ≢ f q) → Distinct (map f (range_with_len a n))
distinct_row f a zero apart = tt
distinct_row f a (suc n) apart = (others (a + 1) n (omega arith) (omega arith), distinct_row f (a + 1) n (λ p q low below high. apart p q (omega arith) below (omega arith)))
  where
    others : (b m : ℕ) → a < b → b + m ≤ a + suc n → AllIn (λ y. ¬ (f a ≡ y)) (map f (range_with_len b m))
    others b zero above within = tt
    others b (suc m) above within = (apart a b (omega arith) above (omega arith), others (b + 1) m (omega arith) (omega arith))

-- a list of numbers in a row has each of them
pub row_has : (a n q : ℕ) → a ≤ q → q < a + n → Has (range_with_len a n) q
row_has a zero q low high = absurd (omega arith)
row_has a (suc n) q low high = elim (cases_lt a q) [ inl above ↦ inr (row_has (a + 1) n q (omega arith) (omega arith)) | inr below ↦ inl (omega arith) ]

-- and no other number
pub row_within : (a n q : ℕ) → Has (range_with_len a n) q → (a ≤ q) × (q < a + n)
row_within a zero q h = absurd h
row_within a (suc n) q (inl e) = (omega (arith, e), omega (arith, e))
row_within a (suc n) q (inr h) = let later = row_within (a + 1) n q h in (omega (arith, later.0), omega (arith, later.1))

-- one number more in a row
pub row_more : (n : ℕ) → range_with_len 0 (n + 1) ≡ range_with_len 0 n ++ n ∷ []
row_more n = sym (map-id (range_with_len 0 (n + 1))) ∙ map-range_with_len_more (λ x. x) 0 n n (omega arith) ∙ ap (λ l. l ++ n ∷ []) (map-id (range_with_len 0 n))

-- a number of a row stands in it once
pub once_in_row : (k a n : ℕ) → a ≤ k → k < a + n → count_by (λ j. k == j) (range_with_len a n) ≡ 1
once_in_row k a zero low high = absurd (omega arith)
once_in_row k a (suc n) low high = by (k == a) refl (λ above. once_in_row k (a + 1) n above (omega arith))
  where
    past : (b m : ℕ) → k < b → count_by (λ j. k == j) (range_with_len b m) ≡ 0
    past b zero h = refl
    past b (suc m) h =
        let off : (k == b) ≡ false = grind (arith, nat_tests) in
        sum_by-cons (λ j. cond (k == j) 1 0) b (range_with_len (b + 1) m) ∙ ap (λ c. cond c 1 0 + count_by (λ j. k == j) (range_with_len (b + 1) m)) off
        ∙ (let rest = past (b + 1) m (omega arith) in omega (arith, rest))

    by : (c : Bool) → (k == a) ≡ c → (a + 1 ≤ k → count_by (λ j. k == j) (range_with_len (a + 1) n) ≡ 1) → count_by (λ j. k == j) (range_with_len a (suc n)) ≡ 1
    by true e later =
        let is : k ≡ a = grind (arith, nat_tests) in
        let rest = past (a + 1) n (omega arith) in
        let first = sum_by-cons (λ j. cond (k == j) 1 0) a (range_with_len (a + 1) n) ∙ ap (λ c. cond c 1 0 + count_by (λ j. k == j) (range_with_len (a + 1) n)) e in
        omega (arith, rest, first)
    by false e later =
        let above : a + 1 ≤ k = grind (arith, nat_tests) in
        let first = sum_by-cons (λ j. cond (k == j) 1 0) a (range_with_len (a + 1) n) ∙ ap (λ c. cond c 1 0 + count_by (λ j. k == j) (range_with_len (a + 1) n)) e in
        omega (arith, later above, first)
