use Rattle.dt_lists.proofs.Callers.{all_more}
use Rattle.dt_test_graph.proofs.classes.below.Goals as goal
use Rattle.dt_test_graph.proofs.classes.below.Goals.{then-number-vertices+in_ok-push, else-number-vertices}

pub loop-number-preserved : goal.loop-number-preserved
loop-number-preserved c =
    elim c.if-number-vertices.branch [
      | then-number-vertices+in_ok-push w ↦
          rw (w.kept-is, w.in_ok-push.ensures.items) (all_more _ _ _ c.loop-number.invariant w.if-number-vertices.true)
      | else-number-vertices w ↦ rw w.kept-is c.loop-number.invariant
    ]
