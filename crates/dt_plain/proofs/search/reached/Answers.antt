use Rattle.std.proofs.Common.{arith}
use Rattle.dt_plain.proofs.IdEquality.{no_id}
use Rattle.dt_plain.proofs.Walk.{walk_begins, walk_goes_on, found_bounded, walk_ends}
use Rattle.dt_plain.proofs.search.reached.Goals as goal

pub loop-at-init : goal.loop-at-init
loop-at-init c = rw (c.in_ok-push.ensures.added, c.new-found.ensures) (walk_begins _ _)

pub loop-at-preserved : goal.loop-at-preserved
loop-at-preserved c =
    walk_goes_on _ _ _ _ _ no_id c.loop-at.invariant (omega arith) (rw c.as_slice.ensures at c.in_ok-follow.ensures)

pub loop-at-smaller : goal.loop-at-smaller
loop-at-smaller c = omega (arith, found_bounded _ _ _ _ c.loop-at.invariant)

pub returns : goal.returns
returns c = walk_ends _ _ _ _ c.loop-at.invariant (omega arith)
