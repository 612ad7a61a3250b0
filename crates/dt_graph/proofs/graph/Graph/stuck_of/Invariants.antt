use Rattle.std.proofs.Common.{take}
use Rattle.dt_waits.specs.Graph.{AreVerticesOf}
use Rattle.dt_graph.proofs.graph.Graph.stuck_of.Given as goal

abbrev pub invariant-loop-id : goal.invariant-loop-id
invariant-loop-id l = AreVerticesOf l.self (take l.id-index l.ids) l.vertices.items
