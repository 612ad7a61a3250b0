use Rattle.dt_plain.proofs.Edges.{ahead_found}
use Rattle.dt_plain.proofs.graph.Graph.ahead.Goals as goal

pub returns : goal.returns
returns c = rw (← c.self.view_is) (ahead_found _ _ _ _ c.self.invariant.forth (rw c.as_slice.ensures at c.reached.ensures))
