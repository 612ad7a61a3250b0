use Rattle.std.proofs.Common.{arith}
use Rattle.dt_plain.proofs.Scan.{any_found, any_on}
use Rattle.dt_plain.specs.SurroundingsInner.{ShowsComplete}
use Rattle.dt_plain.proofs.complete.log_shows_complete.Goals as goal

pub returns-then-shows_complete : goal.returns-then-shows_complete
returns-then-shows_complete c =
    any_found (ShowsComplete c.args.logs.now c.args.id) _ _ c.part-item.result _ _ (omega arith) c.part-item.is c.loop-part.invariant c.shows_complete.ensures c.if-shows_complete.true

pub loop-part-preserved : goal.loop-part-preserved
loop-part-preserved c =
    any_on (ShowsComplete c.args.logs.now c.args.id) _ _ c.part-item.result _ _ (omega arith) c.part-item.is c.loop-part.invariant c.shows_complete.ensures c.if-shows_complete.false
