use Rattle.std.proofs.Common.{drop}
use Rattle.dt_graph.proofs.Removals.{IsEmptying}
use Rattle.dt_graph.proofs.leave.remove_all.Given as goal

abbrev pub invariant-loop-vertex : goal.invariant-loop-vertex
invariant-loop-vertex l = IsEmptying l.vertices.vertices l.leaving (drop l.vertex-index l.leaving) l.initial.queues l.queues
