-- A sum over the merge of what regions keep is the sum over what each of them keeps: the merge has all of it, and each event is of
-- one region. The items of a list are told apart by a number that each has.
use Rattle.std.proofs.Common.{◌≡◌, ◌≢◌, ◌<◌, ◌≤◌, ◌⊎◌, ◌+◌, ℕ, suc, true, false, not, eqb, List, [], ◌∷◌, length, filter, get_or}
use Rattle.std.proofs.Common.{refl, sym, ap, subst, ◌∙◌, inl, inr, arith, eqb-true, eq-eqb}
use Rattle.std.specs.Prelude.{sum_by}
use Rattle.std.proofs.lemmas.Bool.{cases_Bool, false_from_ne_true, false≢true, not-true}
use Rattle.std.proofs.lemmas.List.Filters.{sum_by-filter_both}
use Rattle.std.proofs.lemmas.List.Sums.{sum_by-cons}
use Rattle.dt_lists.specs.Lists.{AllIn, Has}
use Rattle.dt_lists.proofs.Callers.{all_get, all_put, has_of_filtered}
use Rattle.dt_events.specs.declared.Stamped.{Stamped}
use Rattle.dt_merge.specs.Merge.{AreKept, IsMerge, region_at, those_at}
use Rattle.dt_merge.proofs.MergeLists.{merge_keeps}
use Rattle.dt_merge.proofs.MergesExist.{kept_within}

module _ {X : Type 0} (number : X → ℕ) where
  -- the items of a number, and all others
  abbrev of_number : ℕ → List X → List X
  of_number k xs = filter (λ x. eqb (number x) k) xs

  abbrev others : ℕ → List X → List X
  others k xs = filter (λ x. not (eqb (number x) k)) xs

  -- the items of one number are among the others than those of another
  of_others : (k j : ℕ) → j ≢ k → (xs : List X) → of_number j (others k xs) ≡ of_number j xs
  of_others k j apart [] = refl
  of_others k j apart (x ∷ xs) = go (cases_Bool (eqb (number x) k)) (of_others k j apart xs)
    where
      away : eqb (number x) k ≡ true → eqb (number x) j ≡ false
      away t = false_from_ne_true (eqb (number x) j) (λ e. apart (sym (eqb-true (number x) j e) ∙ eqb-true (number x) k t))

      kept : (eqb (number x) j ≡ true) ⊎ (eqb (number x) j ≡ false) → of_number j (others k xs) ≡ of_number j xs → of_number j (x ∷ others k xs) ≡ of_number j (x ∷ xs)
      kept (inl t) e = rw t (ap (λ l. x ∷ l) e)
      kept (inr n) e = rw n e

      go : (eqb (number x) k ≡ true) ⊎ (eqb (number x) k ≡ false) → of_number j (others k xs) ≡ of_number j xs → of_number j (others k (x ∷ xs)) ≡ of_number j (x ∷ xs)
      go (inl t) e = rw t (rw (away t) e)
      go (inr n) e = rw n (kept (cases_Bool (eqb (number x) j)) e)

  -- the items stand in lists by their numbers, from k on, and nowhere else
  record StandApart (lists : List (List X)) (k : ℕ) (xs : List X) : Type 0 where
    each : (i : ℕ) → get_or lists i [] ≡ of_number (k + i) xs
    from : AllIn (λ x. k ≤ number x) xs
    below : AllIn (λ x. number x < k + length lists) xs

  -- so do the others without the first list
  rest_apart : (l : List X) (lists : List (List X)) (k : ℕ) (xs : List X) → StandApart (l ∷ lists) k xs → StandApart lists (k + 1) (others k xs)
  rest_apart l lists k xs a = record {
    each = λ i. a.each (suc i) ∙ ap (λ j. of_number j xs) (next i) ∙ sym (of_others k (k + 1 + i) (apart i) xs);
    from = all_put (λ x. k + 1 ≤ number x) (others k xs) (λ x h. above x (has_of_filtered (λ y. not (eqb (number y) k)) xs x h));
    below = all_put (λ x. number x < k + 1 + length lists) (others k xs) (λ x h. within x (has_of_filtered (λ y. not (eqb (number y) k)) xs x h).0);
  }
    where
      next : (i : ℕ) → k + suc i ≡ k + 1 + i
      next i = omega arith

      apart : (i : ℕ) → k + 1 + i ≢ k
      apart i e = omega (arith, e)

      differs : (x : X) → not (eqb (number x) k) ≡ true → number x ≢ k
      differs x n e = false≢true (sym (not-true (eqb (number x) k) n) ∙ eq-eqb (number x) k e)

      above : (x : X) → Has xs x × (not (eqb (number x) k) ≡ true) → k + 1 ≤ number x
      above x h =
          let le : k ≤ number x = all_get (λ y. k ≤ number y) xs a.from x h.0 in
          let ne : number x ≢ k = differs x h.1 in
          omega (arith, le, ne)

      within : (x : X) → Has xs x → number x < k + 1 + length lists
      within x h = let lt : number x < k + suc (length lists) = all_get (λ y. number y < k + suc (length lists)) xs a.below x h in omega (arith, lt)

  -- a sum over such items is the sum over the lists
  sum_apart : (g : X → ℕ) (lists : List (List X)) (k : ℕ) (xs : List X) → StandApart lists k xs → sum_by g xs ≡ sum_by (sum_by g) lists
  sum_apart g [] k [] a = refl
  sum_apart g [] k (x ∷ xs) a =
      let ge : k ≤ number x = a.from.0 in let lt : number x < k + 0 = a.below.0 in absurd (omega (arith, ge, lt))
  sum_apart g (l ∷ lists) k xs a =
      let first : sum_by g l ≡ sum_by g (of_number k xs) = ap (sum_by g) (a.each 0 ∙ ap (λ j. of_number j xs) same) in
      let both : sum_by g (of_number k xs) + sum_by g (others k xs) ≡ sum_by g xs =
      sum_by-filter_both (λ x. eqb (number x) k) (λ x. not (eqb (number x) k)) (λ x. refl) g xs in
      let left : sum_by g (others k xs) ≡ sum_by (sum_by g) lists = sum_apart g lists (k + 1) (others k xs) (rest_apart l lists k xs a) in
      let all : sum_by (sum_by g) (l ∷ lists) ≡ sum_by g l + sum_by (sum_by g) lists = sum_by-cons (sum_by g) l lists in
      omega (arith, first, both, left, all)
    where
      same : k + 0 ≡ k
      same = omega arith

-- a sum over the merge is the sum over what each region keeps
pub merge_sums : (kept : List (List Stamped)) → AreKept kept → (merged : List Stamped) → IsMerge kept merged → (g : Stamped → ℕ) → sum_by g merged ≡ sum_by (sum_by g) kept
merge_sums kept each merged m g = sum_apart region_at g kept 0 merged (record {
  each = λ i. sym (merge_keeps kept each merged m i) ∙ ap (λ j. those_at j merged) (sym (same i));
  from = all_put (λ x. 0 ≤ region_at x) merged (λ x h. omega arith);
  below = subst (λ n. AllIn (λ x. region_at x < n) merged) (sym (same (length kept)))
      (all_put (λ x. region_at x < length kept) merged (λ x h. kept_within kept (region_at x) x ((m.members x).0 h)));
})
  where
    same : (i : ℕ) → 0 + i ≡ i
    same i = omega arith
