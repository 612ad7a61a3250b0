use Rattle.dt_graph.proofs.QuestionAnswers.{ready_told, unready_told}
use Rattle.dt_graph.proofs.graph.Graph.is_ready.Goals as goal

pub returns-in-Some : goal.returns-in-Some
returns-in-Some c = rw (← c.self.view_is) (ready_told _ _ _ _ _ c.in-Some.ensures.once c.in-Some.ensures.number c.is_ready.ensures)

pub returns-in-None : goal.returns-in-None
returns-in-None c = rw (← c.self.view_is) (unready_told _ _ _ c.in-None.ensures.number)
