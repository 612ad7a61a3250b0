use Rattle.dt_plain.proofs.Scan.{tested, refuted}
use Rattle.dt_plain.proofs.Intersections.{shared_more, shared_past}
use Rattle.dt_plain.proofs.class.shared.Goals as goal
use Rattle.dt_plain.proofs.class.shared.Goals.{then-has+in_ok-push, else-has}

pub loop-id-preserved : goal.loop-id-preserved
loop-id-preserved c =
    elim c.if-has.branch [
      | then-has+in_ok-push w ↦
          rw (w.ids-is, w.in_ok-push.ensures.items)
          (shared_more _ _ _ _ c.loop-id-test.true c.requires c.loop-id.invariant (tested _ c.has.ensures w.if-has.true))
      | else-has w ↦ rw w.ids-is (shared_past _ _ _ _ c.loop-id-test.true c.loop-id.invariant (refuted _ c.has.ensures w.if-has.false))
    ]
