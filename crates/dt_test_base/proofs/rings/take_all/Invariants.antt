use Rattle.dt_ring.specs.Rings.{SameIn}
use Rattle.dt_test_base.proofs.rings.take_all.Given as goal

abbrev pub invariant-loop : goal.invariant-loop
invariant-loop l = SameIn l.fn.inlet l.inlet
