use Rattle.dt_class.proofs.Marks.{AreMarkedBelow}
use Rattle.dt_class.proofs.found.Found.ascending.Given as goal

abbrev pub invariant-loop-vertex : goal.invariant-loop-vertex
invariant-loop-vertex l = AreMarkedBelow l.self.marks l.vertex l.vertices.items
