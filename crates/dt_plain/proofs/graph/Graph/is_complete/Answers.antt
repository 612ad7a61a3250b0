use Rattle.dt_plain.proofs.graph.Graph.is_complete.Goals as goal

pub returns : goal.returns
returns c = rw (← c.self.view_is) c.is_complete.ensures
