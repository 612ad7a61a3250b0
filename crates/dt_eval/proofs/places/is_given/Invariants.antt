use Rattle.dt_eval.proofs.KeyFronts.{Giving}
use Rattle.dt_eval.proofs.places.is_given.Given as goal

abbrev pub invariant-loop-item : goal.invariant-loop-item
invariant-loop-item l = Giving l.args l.items l.bytes l.item-index l.rest
