use Rattle.std.proofs.Common.{◌≡◌, take}
use Rattle.dt_graph.proofs.group.Group.of.Given as goal

abbrev pub invariant-loop-vertex : goal.invariant-loop-vertex
invariant-loop-vertex l = l.vertices.keys ≡ take l.vertex-index l.list
