use Rattle.dt_plain.proofs.Scan.{take-at}
use Rattle.dt_plain.proofs.PresentIds.{present_more}
use Rattle.dt_plain.proofs.graph.present.Goals as goal

pub loop-log-preserved : goal.loop-log-preserved
loop-log-preserved c =
    rw (take-at c.args.logs.now c.loop-log.log-index c.log-item.result c.log-item.result c.loop-log-test.true c.log-item.is)
    (present_more _ _ _ _ c.loop-log.invariant (rw c.as_slice.ensures at c.in_ok-add_ids.ensures))
