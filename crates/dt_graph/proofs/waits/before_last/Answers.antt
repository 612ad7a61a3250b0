use Rattle.std.proofs.Common.{◌≤◌, ◌+◌, ◌-◌, ℕ, length, arith}
use Rattle.dt_lists.proofs.Callers.{all_put}
use Rattle.dt_graph.proofs.AscendingNumbers.{place_below}
use Rattle.dt_graph.proofs.waits.before_last.Goals as goal

pub overflow_cast-result : goal.overflow_cast-result
overflow_cast-result c =
    let homes = c.args.homes.now in
    let le : length homes - 1 + 0 ≤ c.args.last = place_below 0 homes c.requires.ascending (all_put _ homes (λ v h. least v)) (length homes - 1) c.args.last c.requires.last in
    omega (arith, le, c.ranges.last.fits)
  where
    least : (v : ℕ) → 0 ≤ v
    least v = omega arith
