use Rattle.dt_class.proofs.Follow.{follow_goes_on, follow_ends}
use Rattle.dt_class.proofs.search.follow.Goals as goal

pub loop-at-preserved : goal.loop-at-preserved
loop-at-preserved c =
    rw c.earlier-at.ensures
    (follow_goes_on _ _ _ _ _ _ _ (rw c.in-Some.is at c.loop-at.invariant) (rw c.far_end.ensures at c.in_ok-add.ensures) _ c.requires.chained)

pub returns : goal.returns
returns c = follow_ends _ _ _ _ _ (rw c.in_default.is at c.loop-at.invariant)
