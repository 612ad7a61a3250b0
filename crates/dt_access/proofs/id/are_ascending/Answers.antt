use Rattle.dt_access.proofs.Ids.{ascent_on}
use Rattle.dt_access.proofs.id.are_ascending.Goals as goal

pub loop-next-preserved : goal.loop-next-preserved
loop-next-preserved c =
    let i = c.loop-next.invariant in
    let e = c.in-Some-split_first.ensures.cases.0 in
    let on = ascent_on c.loop-next.last.now c.in-Some-split_first.next.now c.in-Some-split_first.later.now (c.before-in-Some-split_first.ensures.0 c.if-not-before.false) in
    (λ h. on.0 (rw e at i.0 h), λ h. i.1 (rw e (on.1 h)))
