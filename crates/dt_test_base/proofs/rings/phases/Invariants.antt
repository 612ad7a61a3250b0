use Rattle.dt_ring.specs.Rings.{AreEnds}
use Rattle.dt_test_base.proofs.rings.phases.Given as goal

abbrev pub invariant-loop-count : goal.invariant-loop-count
invariant-loop-count g l = AreEnds l.outlet l.inlet
