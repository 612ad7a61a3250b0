-- How great degrees are: an entry has at most as many neighbours as there are entries, so a degree is at most the square of
-- their number.
use Rattle.std.proofs.Common.{◌≡◌, ◌≢◌, ◌<◌, ◌≤◌, ◌*◌, ◌^◌, ℕ, Bool, ◌&&◌, ◌==◌, not, if◌then◌else◌, true, false, List, [], ◌∷◌, filter, length}
use Rattle.std.proofs.Common.{slice_index_or, refl, arith}
use Rattle.std.specs.List.{list_any}
use Rattle.std.proofs.Math.Nat.{mul-le-mul_left}
use Rattle.std.proofs.lemmas.List.Sums.{sum_by-le}
use Rattle.dt_lists.specs.Lists.{AllIn}
use Rattle.dt_lists.proofs.Callers.{all_map}
use Rattle.dt_queue.specs.Queues.{Waiting, entries_clash, entry_at, nearest, neighbours, pushed_before}
use Rattle.dt_waits.specs.Waits.{degree, others}
use Rattle.dt_waits.proofs.DegreeZero.{zero_sum}
use Rattle.dt_waits.proofs.NeighbourChains.{slot_other}

-- at most as many are nearest as there are
nearest_few : (x : Waiting) (ws : List Waiting) → length (nearest x ws) ≤ length ws
nearest_few x [] = omega arith
nearest_few x (w ∷ later) = by (entries_clash w x && not (list_any (λ m. entries_clash w m && entries_clash m x) later)) (nearest_few x later)
  where
    by : (t : Bool) → length (nearest x later) ≤ length later → length (if t then w ∷ nearest x later else nearest x later) ≤ length (w ∷ later)
    by true le = omega (arith, le)
    by false le = omega (arith, le)

before_few : (ws : List Waiting) (slot : ℕ) → length (pushed_before ws slot) ≤ length ws
before_few [] slot = omega arith
before_few (w ∷ ws) slot = by (w.slot == slot) (before_few ws slot)
  where
    by : (t : Bool) → length (pushed_before ws slot) ≤ length ws → length (if t then [] else w ∷ pushed_before ws slot) ≤ length (w ∷ ws)
    by true le = omega arith
    by false le = omega (arith, le)

passing_few : (p : Waiting → Bool) (ws : List Waiting) → length (filter p ws) ≤ length ws
passing_few p [] = omega arith
passing_few p (w ∷ ws) = by (p w) (passing_few p ws)
  where
    by : (t : Bool) → length (filter p ws) ≤ length ws → length (if t then w ∷ filter p ws else filter p ws) ≤ length (w ∷ ws)
    by true le = omega (arith, le)
    by false le = omega (arith, le)

-- a degree is at most the square of the number of entries
degree_square : (ws : List Waiting) (v : ℕ) → degree ws v ≤ length ws * length ws
degree_square ws v = sum_by-le (λ w. if w.vertex == v then length (others v (neighbours ws w.slot)) else 0) (length ws) ws (λ i d lt. term (slice_index_or ws i d))
  where
    some : (w : Waiting) → length (others v (neighbours ws w.slot)) ≤ length ws
    some w = let a = passing_few (λ x. not (x.vertex == v)) (neighbours ws w.slot) in let b = nearest_few (entry_at ws w.slot) (pushed_before ws w.slot) in let c = before_few ws w.slot in omega (arith, a, b, c)

    term : (w : Waiting) → (if w.vertex == v then length (others v (neighbours ws w.slot)) else 0) ≤ length ws
    term w = by (w.vertex == v) (some w)
      where
        by : (t : Bool) → length (others v (neighbours ws w.slot)) ≤ length ws → (if t then length (others v (neighbours ws w.slot)) else 0) ≤ length ws
        by true le = le
        by false le = omega arith

-- where the entries are counted in 64 bits, degrees are counted in 128
pub degree_fits : (ws : List Waiting) (v : ℕ) → length ws < 2 ^ 64 → degree ws v < 2 ^ 128
degree_fits ws v few = below (length ws) (degree ws v) few (degree_square ws v)
  where
    below : (n d : ℕ) → n < 2 ^ 64 → d ≤ n * n → d < 2 ^ 128
    below n d lt le = let m : n * n ≤ n * 18446744073709551616 = mul-le-mul_left n (omega (arith, lt)) in omega (arith, lt, le, m)

-- a vertex of which there is no entry yet has degree 0
pub degree_of_new : (ws : List Waiting) (v : ℕ) → AllIn (λ w. w.vertex < v) ws → degree ws v ≡ 0
degree_of_new ws v below = zero_sum _ ws (all_map _ _ ws (λ w lt. none w (slot_other w.vertex v (apart w.vertex lt))) below)
  where
    none : (w : Waiting) → (w.vertex == v) ≡ false → (if w.vertex == v then length (others v (neighbours ws w.slot)) else 0) ≡ 0
    none w e = rw e refl

    apart : (x : ℕ) → x < v → x ≢ v
    apart x lt e = omega (arith, lt, e)
