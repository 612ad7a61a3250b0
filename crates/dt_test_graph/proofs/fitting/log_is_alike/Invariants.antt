use Rattle.std.proofs.Common.{◌↔◌, drop}
use Rattle.dt_lists.specs.Lists.{AllIn}
use Rattle.dt_test_graph.specs.PartConditions.{IsAlike}
use Rattle.dt_test_graph.proofs.fitting.log_is_alike.Given as goal

abbrev pub invariant-loop-other : goal.invariant-loop-other
invariant-loop-other l = AllIn (IsAlike l.part) (drop l.other-index l.log) ↔ AllIn (IsAlike l.part) l.log
