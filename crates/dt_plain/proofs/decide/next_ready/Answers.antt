use Rattle.dt_plain.proofs.Choice.{ready_more, none_ready}
use Rattle.dt_plain.proofs.decide.next_ready.Goals as goal

pub loop-id-preserved : goal.loop-id-preserved
loop-id-preserved c =
    ready_more _ _ _ _ _ _ _ c.loop-id-test.true c.loop-id.invariant c.in_ok-is_ready.ensures c.if-branch.false

pub returns : goal.returns
returns c = none_ready _ _ _ _ _ _ c.loop-id-test.false c.ids-id-items.ensures c.loop-id.invariant
