use Rattle.dt_plain.proofs.Choice.{class_more, no_class}
use Rattle.dt_plain.proofs.decide.next_class.Goals as goal

pub loop-id-preserved : goal.loop-id-preserved
loop-id-preserved c =
    class_more _ _ _ _ _ _ _ c.loop-id-test.true c.loop-id.invariant c.in_ok-class.ensures (rw c.as_slice.ensures at c.in_ok-is_resolvable.ensures) c.if-branch.false

pub returns : goal.returns
returns c = no_class _ _ _ _ _ c.loop-id-test.false c.ids-id-items.ensures c.loop-id.invariant
