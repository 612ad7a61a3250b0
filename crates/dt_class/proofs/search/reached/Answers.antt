use Rattle.std.proofs.Common.{arith}
use Rattle.dt_class.proofs.Walk.{one_more_begun, reach_of_spread}
use Rattle.dt_class.proofs.search.reached.Goals as goal

pub loop-start-preserved : goal.loop-start-preserved
loop-start-preserved c = one_more_begun _ _ _ _ _ c.loop-start-test.true c.loop-start.invariant c.in_ok-add.ensures

pub returns : goal.returns
returns c = reach_of_spread _ _ _ _ _ _ c.loop-start.start-index (omega (arith, c.loop-start-test.false)) c.loop-start.invariant c.in_ok-spread.ensures
