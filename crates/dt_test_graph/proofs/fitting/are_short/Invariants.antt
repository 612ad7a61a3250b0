use Rattle.std.proofs.Common.{◌↔◌, drop}
use Rattle.dt_lists.specs.Lists.{AllIn}
use Rattle.dt_test_graph.specs.PartConditions.{IsShort}
use Rattle.dt_test_graph.proofs.fitting.are_short.Given as goal

abbrev pub invariant-loop-log : goal.invariant-loop-log
invariant-loop-log l = AllIn IsShort (drop l.log-index l.logs) ↔ AllIn IsShort l.logs
