use Rattle.dt_plain.proofs.Scan.{take-at, tested, refuted}
use Rattle.dt_plain.proofs.Edges.{front_linked, front_past}
use Rattle.dt_plain.proofs.graph.link_front.Goals as goal
use Rattle.dt_plain.proofs.graph.link_front.Goals.{then-makes_edge+in_ok-push, else-makes_edge}

pub loop-earlier-preserved : goal.loop-earlier-preserved
loop-earlier-preserved c =
    rw (take-at c.args.front.now c.loop-earlier.earlier-index c.earlier-item.result c.earlier-item.result c.loop-earlier-test.true c.earlier-item.is)
    (elim c.if-makes_edge.branch [
      | then-makes_edge+in_ok-push w ↦
          rw (w.links-is, w.in_ok-push.ensures.added)
          (front_linked _ c.earlier-item.result c.args.part.now _ _ c.loop-earlier.invariant (tested _ c.makes_edge.ensures w.if-makes_edge.true))
      | else-makes_edge w ↦ rw w.links-is (front_past _ c.earlier-item.result c.args.part.now _ _ c.loop-earlier.invariant (refuted _ c.makes_edge.ensures w.if-makes_edge.false))
    ])
