use Rattle.dt_graph.proofs.vertices.Vertices.take_ready.Goals as goal

pub returns-clause-removed : goal.returns-clause-removed
returns-clause-removed c = rw (← c.self.view_is) c.take.ensures.removed
