use Rattle.std.proofs.Common.{arith}
use Rattle.dt_plain.proofs.Scan.{any_found, any_on}
use Rattle.dt_lists.specs.Lists.{AnyIn}
use Rattle.dt_plain.specs.SurroundingsInner.{ShowsComplete}
use Rattle.dt_plain.proofs.complete.is_complete.Goals as goal

pub returns-then-log_shows_complete : goal.returns-then-log_shows_complete
returns-then-log_shows_complete c =
    any_found (AnyIn (ShowsComplete c.args.logs.now c.args.id)) _ _ c.log-item.result _ _ (omega arith) c.log-item.is c.loop-log.invariant (rw c.as_slice.ensures at c.log_shows_complete.ensures) c.if-log_shows_complete.true

pub loop-log-preserved : goal.loop-log-preserved
loop-log-preserved c =
    any_on (AnyIn (ShowsComplete c.args.logs.now c.args.id)) _ _ c.log-item.result _ _ (omega arith) c.log-item.is c.loop-log.invariant (rw c.as_slice.ensures at c.log_shows_complete.ensures) c.if-log_shows_complete.false
