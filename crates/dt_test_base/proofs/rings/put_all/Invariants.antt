use Rattle.std.proofs.Common.{◌≤◌}
use Rattle.dt_ring.specs.Rings.{SameOut}
use Rattle.dt_test_base.proofs.rings.put_all.Given as goal

abbrev pub invariant-loop-number : goal.invariant-loop-number
invariant-loop-number l = record {
  same : SameOut l.fn.outlet l.outlet;
  few : l.refused ≤ l.number;
}
