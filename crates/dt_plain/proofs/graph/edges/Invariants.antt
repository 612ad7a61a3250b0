use Rattle.std.proofs.Common.{take}
use Rattle.dt_plain.specs.GraphsInner.{AreEdges}
use Rattle.dt_plain.proofs.graph.edges.Given as goal

abbrev pub invariant-loop-log : goal.invariant-loop-log
invariant-loop-log l = AreEdges (take l.log-index l.logs) l.links
