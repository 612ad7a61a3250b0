use Rattle.std.proofs.Common.{◌≡◌}
use Rattle.dt_test_graph.proofs.classes.graph.Given as goal

abbrev pub invariant-loop-source : goal.invariant-loop-source
invariant-loop-source l = l.graph.vertices ≡ l.vertices
