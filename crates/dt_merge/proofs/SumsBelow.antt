-- Sums of the numbers that a function gives below a bound: summands that are equal, greater or sums themselves, and the first one.
use Rattle.std.proofs.Common.{◌≡◌, ◌<◌, ◌≤◌, ◌+◌, ◌*◌, ℕ, zero, suc, refl, arith}
use Rattle.dt_merge.specs.Weight.{sum_below}

-- functions that are equal below n have equal sums
pub sum_below_same : (f g : ℕ → ℕ) (n : ℕ) → ((k : ℕ) → k < n → f k ≡ g k) → sum_below f n ≡ sum_below g n
sum_below_same f g zero h = refl
sum_below_same f g (suc n) h =
    let a : sum_below f n ≡ sum_below g n = sum_below_same f g n (λ k lt. h k (omega arith)) in
    let b : f n ≡ g n = h n (omega arith) in
    omega arith

-- a function that is nowhere less has no lesser sum
pub sum_below_le : (f g : ℕ → ℕ) (n : ℕ) → ((k : ℕ) → k < n → f k ≤ g k) → sum_below f n ≤ sum_below g n
sum_below_le f g zero h = omega arith
sum_below_le f g (suc n) h =
    let a : sum_below f n ≤ sum_below g n = sum_below_le f g n (λ k lt. h k (omega arith)) in
    let b : f n ≤ g n = h n (omega arith) in
    omega arith

-- the sum of one number n times
pub sum_below_const : (m n : ℕ) → sum_below (λ k. m) n ≡ n * m
sum_below_const m zero = omega arith
sum_below_const m (suc n) = let a : sum_below (λ k. m) n ≡ n * m = sum_below_const m n in omega arith

-- the sum of two functions added
pub sum_below_added : (f g : ℕ → ℕ) (n : ℕ) → sum_below (λ k. f k + g k) n ≡ sum_below f n + sum_below g n
sum_below_added f g zero = refl
sum_below_added f g (suc n) = let a : sum_below (λ k. f k + g k) n ≡ sum_below f n + sum_below g n = sum_below_added f g n in omega arith

-- a sum with its first summand apart
pub sum_below_first : (f : ℕ → ℕ) (n : ℕ) → sum_below f (suc n) ≡ f 0 + sum_below (λ k. f (suc k)) n
sum_below_first f zero = omega arith
sum_below_first f (suc n) = let a : sum_below f (suc n) ≡ f 0 + sum_below (λ k. f (suc k)) n = sum_below_first f n in omega arith
