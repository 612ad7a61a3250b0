use Rattle.std.proofs.Common.{arith, refl}
use Rattle.dt_plain.proofs.Scan.{all_failed, all_on}
use Rattle.dt_sched.specs.Views.{IsComplete}
use Rattle.dt_plain.proofs.complete.are_complete.Goals as goal

pub returns-then-not-is_complete : goal.returns-then-not-is_complete
returns-then-not-is_complete c =
    all_failed (IsComplete c.args.logs.now) _ _ _ _ _ (omega arith) refl c.loop-id.invariant c.is_complete.ensures c.if-not-is_complete.true

pub loop-id-preserved : goal.loop-id-preserved
loop-id-preserved c =
    all_on (IsComplete c.args.logs.now) _ _ _ _ _ (omega arith) refl c.loop-id.invariant c.is_complete.ensures c.if-not-is_complete.false
