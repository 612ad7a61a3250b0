-- The greatest of some numbers.
use Rattle.std.proofs.Common.{◌≡◌, ◌≤◌, ◌+◌, ℕ, List, [], ◌∷◌, ◌++◌, max, refl, arith}
use Rattle.dt_lists.specs.Lists.{AllIn}
use Rattle.dt_node.specs.Turn.{greatest}

pub above_greatest : (n : ℕ) (ms : List ℕ) → n ≤ greatest n ms
above_greatest n [] = omega arith
above_greatest n (m ∷ ms) = let later : max n m ≤ greatest (max n m) ms = above_greatest (max n m) ms in omega (arith, later)

pub greatest_more : (n k m : ℕ) (ms : List ℕ) → m ≤ n + k → greatest m ms ≤ greatest n ms + k
greatest_more n k m [] le = le
greatest_more n k m (x ∷ ms) le = greatest_more (max n x) k (max m x) ms (omega (arith, le))

pub greatest_append : (n : ℕ) (ms ks : List ℕ) → greatest n (ms ++ ks) ≡ greatest (greatest n ms) ks
greatest_append n [] ks = refl
greatest_append n (m ∷ ms) ks = greatest_append (max n m) ms ks

pub greatest_below : (n m : ℕ) (ms : List ℕ) → n ≤ m → AllIn (λ x. x ≤ m) ms → greatest n ms ≤ m
greatest_below n m [] le all = le
greatest_below n m (x ∷ ms) le all = let one : x ≤ m = all.0 in greatest_below (max n x) m ms (omega (arith, le, one)) all.1

-- each of them is at most the greatest, so reporting them twice adds nothing

pub in_greatest : (n : ℕ) (ms : List ℕ) → AllIn (λ m. m ≤ greatest n ms) ms
in_greatest n [] = tt
in_greatest n (m ∷ ms) = let above : max n m ≤ greatest (max n m) ms = above_greatest (max n m) ms in (omega (arith, above), in_greatest (max n m) ms)

pub greatest_twice : (n : ℕ) (ms : List ℕ) → greatest n (ms ++ ms) ≤ greatest n ms
greatest_twice n ms =
    let joined : greatest n (ms ++ ms) ≡ greatest (greatest n ms) ms = greatest_append n ms ms in
    let same : greatest (greatest n ms) ms ≤ greatest n ms = greatest_below (greatest n ms) (greatest n ms) ms (omega arith) (in_greatest n ms) in
    omega (arith, joined, same)
