use Rattle.dt_run.specs.LinksInner.{BesideSoFar}
use Rattle.dt_run.proofs.links.beside_all.Given as goal

abbrev pub invariant-loop-source : goal.invariant-loop-source
invariant-loop-source g l = BesideSoFar l.source l.initial.seats l.seats
