use Rattle.std.proofs.Common.{subst}
use Rattle.dt_lists.specs.Lists.{Has}
use Rattle.dt_graph.proofs.QuestionAnswers.{busy_all, busy_more, is_busy, not_busy, ready_at}
use Rattle.dt_graph.proofs.graph.Graph.ready_beside.Goals as goal

pub returns-then-not-contains : goal.returns-then-not-contains
returns-then-not-contains c =
    rw (← c.self.view_is) (ready_at _ _ _ _ _ c.loop-vertex-test.true c.ready-vertex-items.ensures c.id_of-id.ensures, not_busy _ _ _ c.contains.ensures.value c.if-not-contains.true)

pub loop-vertex-preserved : goal.loop-vertex-preserved
loop-vertex-preserved c =
    rw (← c.self.view_is)
    (busy_more _ _ _ _ c.loop-vertex-test.true (rw (← c.self.view_is) at c.loop-vertex.invariant) (subst (Has c.args.busy.now) c.id_of-id.ensures (is_busy _ _ _ c.contains.ensures.value c.if-not-contains.false)))

pub returns : goal.returns
returns c = rw (← c.self.view_is) (busy_all _ _ _ _ _ c.loop-vertex-test.false c.ready-vertex-items.ensures (rw (← c.self.view_is) at c.loop-vertex.invariant))
