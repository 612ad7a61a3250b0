use Rattle.std.proofs.Common.{◌<◌}
use Rattle.dt_lists.specs.Lists.{AllIn}
use Rattle.dt_test_graph.proofs.classes.below.Given as goal

abbrev pub invariant-loop-number : goal.invariant-loop-number
invariant-loop-number l = AllIn (λ v. v < l.vertices) l.kept.items
