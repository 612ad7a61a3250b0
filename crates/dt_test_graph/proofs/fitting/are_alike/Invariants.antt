use Rattle.std.proofs.Common.{◌↔◌, drop}
use Rattle.dt_lists.specs.Lists.{AllIn}
use Rattle.dt_test_graph.specs.PartConditions.{IsAlike}
use Rattle.dt_test_graph.proofs.fitting.are_alike.Given as goal

abbrev pub invariant-loop-log : goal.invariant-loop-log
invariant-loop-log l = AllIn (AllIn (IsAlike l.part)) (drop l.log-index l.logs) ↔ AllIn (AllIn (IsAlike l.part)) l.logs
