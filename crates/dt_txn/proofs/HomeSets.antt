-- Sets of homes, kept as ascending lists.
use Rattle.std.proofs.Common.{◌≡◌, ℕ, suc, ◌<◌, ◌≤◌, nat_lt, List, [], ◌∷◌, length, get_or, refl, sym, subst, ap, arith, insert, inl, inr}
use Rattle.std.specs.List.{prefix_len}
use Rattle.std.proofs.lemmas.Bool.{cases_order}
use Rattle.std.proofs.lemmas.Bool.Decides.{nat_tests}
use Rattle.dt_lists.specs.Lists.{AllIn}
use Rattle.dt_lists.proofs.Callers.{all_map}
use Rattle.dt_access.specs.Orders.{AreAscendingHomes}
use Rattle.dt_txn.specs.Transaction.{with_number, set_of}

-- how many numbers at the front are below n
abbrev pub below : ℕ → List ℕ → ℕ
below n xs = prefix_len (λ m. nat_lt m n) xs

-- the number is there, at the first place where the list is not below it
abbrev pub IsThere : ℕ → List ℕ → Type 0
IsThere n xs = (below n xs < length xs) × (get_or xs (below n xs) 0 ≡ n)

-- n goes in front of a greater number, is there already, or goes behind a lesser one
front : (n m : ℕ) (ms : List ℕ) → n < m → with_number n (m ∷ ms) ≡ n ∷ m ∷ ms
front n m ms h = grind (arith, nat_tests)

same : (n m : ℕ) (ms : List ℕ) → n ≡ m → with_number n (m ∷ ms) ≡ m ∷ ms
same n m ms h = grind (arith, nat_tests)

behind : (n m : ℕ) (ms : List ℕ) → m < n → with_number n (m ∷ ms) ≡ m ∷ with_number n ms
behind n m ms h = grind (arith, nat_tests)

below_less : (n m : ℕ) (ms : List ℕ) → m < n → below n (m ∷ ms) ≡ suc (below n ms)
below_less n m ms h = grind (arith, nat_tests)

below_not : (n m : ℕ) (ms : List ℕ) → n ≤ m → below n (m ∷ ms) ≡ 0
below_not n m ms h = grind (arith, nat_tests)

-- where n is not there, it goes in at the first place where the list is not below it
pub with_number_fresh : (n : ℕ) (xs : List ℕ) → ¬ (IsThere n xs) → insert xs (below n xs) n ≡ with_number n xs
with_number_fresh n [] absent = refl
with_number_fresh n (m ∷ ms) absent = elim (cases_order n m) [
  | inl equal ↦ absurd (absent (rw (below_not n m ms (omega arith)) (omega arith, sym equal)))
  | inr (inl less) ↦ rw (below_not n m ms (omega arith), front n m ms less) refl
  | inr (inr more) ↦
      let later : ¬ (IsThere n ms) = λ there. absent (rw (below_less n m ms more) (omega arith, there.1)) in
      rw (below_less n m ms more, behind n m ms more) (ap (λ (xs : List ℕ). m ∷ xs) (with_number_fresh n ms later))
]

-- where n is there, nothing changes
pub with_number_there : (n : ℕ) (xs : List ℕ) → IsThere n xs → xs ≡ with_number n xs
with_number_there n [] there = absurd (omega arith)
with_number_there n (m ∷ ms) there = elim (cases_order n m) [
  | inl equal ↦ sym (same n m ms equal)
  | inr (inl less) ↦
      let first : m ≡ n = rw (below_not n m ms (omega arith)) at there.1 in
      absurd (omega arith)
  | inr (inr more) ↦
      let later = rw (below_less n m ms more) at there in
      rw (behind n m ms more) (ap (λ (xs : List ℕ). m ∷ xs) (with_number_there n ms (omega arith, later.1)))
]

-- the same at a place that is known to be that of the first number not below n
pub with_number_fresh_at : (n : ℕ) (xs : List ℕ) (p : ℕ) → p ≡ below n xs → (p < length xs → get_or xs p 0 ≡ n → ⊥) → insert xs p n ≡ with_number n xs
with_number_fresh_at n xs p first absent =
    rw first (with_number_fresh n xs (λ there. absent (rw first there.0) (rw first there.1)))

pub with_number_there_at : (n : ℕ) (xs : List ℕ) (p : ℕ) → p ≡ below n xs → p < length xs → get_or xs p 0 ≡ n → xs ≡ with_number n xs
with_number_there_at n xs p first lt eq = with_number_there n xs (rw first at lt, rw first at eq)

-- what all numbers of a list and n have, all numbers of the set with n have
pub with_number_all : (P : ℕ → Type 0) (n : ℕ) (xs : List ℕ) → P n → AllIn P xs → AllIn P (with_number n xs)
with_number_all P n [] p all = (p, tt)
with_number_all P n (m ∷ ms) p all = elim (cases_order n m) [
  | inl equal ↦ rw (same n m ms equal) all
  | inr (inl less) ↦ rw (front n m ms less) (p, all)
  | inr (inr more) ↦ rw (behind n m ms more) (all.0, with_number_all P n ms p all.1)
]

-- a set with one more number is ascending
pub with_number_ascending : (n : ℕ) (xs : List ℕ) → AreAscendingHomes xs → AreAscendingHomes (with_number n xs)
with_number_ascending n [] each = (tt, tt)
with_number_ascending n (m ∷ ms) each = elim (cases_order n m) [
  | inl equal ↦ rw (same n m ms equal) each
  | inr (inl less) ↦ rw (front n m ms less) ((less, all_map (λ k. m < k) (λ k. n < k) ms (λ k h. omega arith) each.0), each)
  | inr (inr more) ↦ rw (behind n m ms more) (with_number_all (λ k. m < k) n ms more each.0, with_number_ascending n ms each.1)
]

-- a set of numbers is ascending
pub set_of_ascending : (ns : List ℕ) → AreAscendingHomes (set_of ns)
set_of_ascending [] = tt
set_of_ascending (n ∷ ns) = with_number_ascending n (set_of ns) (set_of_ascending ns)

pub ascending_of_set : (xs ns : List ℕ) → xs ≡ set_of ns → AreAscendingHomes xs
ascending_of_set xs ns e = subst (λ (ms : List ℕ). AreAscendingHomes ms) (sym e) (set_of_ascending ns)
