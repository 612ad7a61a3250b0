use Rattle.std.proofs.Common.{arith}
use Rattle.dt_test_base.proofs.rings.put_all.Goals.{else-is_err, then-is_err}
use Rattle.dt_test_base.proofs.rings.put_all.Goals as goal

pub loop-number-preserved : goal.loop-number-preserved
loop-number-preserved c =
    let before = c.loop-number.invariant in record {
      same = c.put.ensures.same c.args.outlet.now before.same;
      few = elim c.if-is_err.branch [ then-is_err w ↦ omega (arith, w.refused-is, before.few) | else-is_err w ↦ omega (arith, w.refused-is, before.few) ];
    }
