use Rattle.dt_eval.proofs.KeyFronts.{giving_more}
use Rattle.dt_eval.proofs.places.is_given.Goals as goal

pub loop-item-preserved : goal.loop-item-preserved
loop-item-preserved c =
    giving_more c.args.args.now c.args.items.now c.args.bytes.now c.loop-item.rest.now c.loop-item.item-index c.item-item.result c.loop-item-test.true c.item-item.is c.loop-item.invariant c.in-Some.after.now c.in-Some.ensures
