use Rattle.std.proofs.Common.{◌≤◌, ◌<◌, ◌-◌, ℕ, length, sym, subst, arith}
use Rattle.dt_lists.proofs.Callers.{at_place, none_some}
use Rattle.dt_graph.proofs.waits.other_homes.Goals as goal

pub returns-in-None : goal.returns-in-None
returns-in-None c =
    let homes = c.as_slice-homes.result.now in
    absurd (none_some (sym c.in-None.ensures.value) (at_place homes (length homes - 1) (less _ (subst (λ l. 1 ≤ length l) (sym c.as_slice-homes.ensures.same) c.requires))).1)
  where
    less : (n : ℕ) → 1 ≤ n → n - 1 < n
    less n le = omega (arith, le)
