use Rattle.std.proofs.Common.{◌↔◌, ◌∷◌, length}
use Rattle.dt_access.specs.Ids.{AreAscending}
use Rattle.dt_access.proofs.id.are_ascending.Given as goal

abbrev pub invariant-loop-next : goal.invariant-loop-next
invariant-loop-next l = AreAscending l.fn.ids ↔ AreAscending (l.last ∷ l.rest)

abbrev pub decreases-loop-next : goal.decreases-loop-next
decreases-loop-next l = length l.rest
