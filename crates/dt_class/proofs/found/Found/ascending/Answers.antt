use Rattle.dt_class.proofs.Marks.{below_more, below_past}
use Rattle.dt_class.proofs.found.Found.ascending.Goals as goal
use Rattle.dt_class.proofs.found.Found.ascending.Goals.{then-marked+in_ok-push, else-marked}

pub loop-vertex-preserved : goal.loop-vertex-preserved
loop-vertex-preserved c =
    let below = rw (← c.self.view_is) at c.loop-vertex.invariant in
    elim c.if-marked.branch [
      | then-marked+in_ok-push w ↦
          rw (← c.self.view_is, w.vertices-is, w.in_ok-push.ensures.items) (below_more _ _ _ below (rw c.deref-marked-items.ensures.value at w.if-marked.true))
      | else-marked w ↦
          rw (← c.self.view_is, w.vertices-is) (below_past _ _ _ below (rw c.deref-marked-items.ensures.value at w.if-marked.false))
    ]
