use Rattle.dt_ring.specs.Rings.{AreEnds}
use Rattle.dt_test_base.proofs.rings.played.Given as goal

abbrev pub invariant-loop-place : goal.invariant-loop-place
invariant-loop-place l = AreEnds l.outlet l.inlet
