use Rattle.dt_plain.proofs.Edges.{behind_found}
use Rattle.dt_plain.proofs.graph.Graph.behind.Goals as goal

pub returns : goal.returns
returns c = rw (← c.self.view_is) (behind_found _ _ _ _ c.self.invariant.turned_round (rw c.as_slice.ensures at c.reached.ensures))
