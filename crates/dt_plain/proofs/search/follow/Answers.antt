use Rattle.dt_plain.proofs.IdEquality.{ids_same, ids_differ}
use Rattle.dt_plain.proofs.GrowingIds.{follows_more_at, follows_past_at}
use Rattle.dt_plain.proofs.search.follow.Goals as goal
use Rattle.dt_plain.proofs.search.follow.Goals.{then-eq+in_ok-add_once, else-eq}

pub loop-link-preserved : goal.loop-link-preserved
loop-link-preserved c =
    elim c.if-eq.branch [
      | then-eq+in_ok-add_once w ↦
          rw w.found-is
          (follows_more_at _ _ _ _ _ _ c.loop-link-test.true c.loop-link.invariant (ids_same _ _ _ c.eq.ensures w.if-eq.true) w.in_ok-add_once.ensures)
      | else-eq w ↦ rw w.found-is (follows_past_at _ _ _ _ _ c.loop-link-test.true c.loop-link.invariant (ids_differ _ _ _ c.eq.ensures w.if-eq.false))
    ]
