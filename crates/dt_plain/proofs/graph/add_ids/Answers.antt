use Rattle.dt_plain.proofs.Scan.{take-at}
use Rattle.dt_plain.proofs.PresentIds.{gets_more}
use Rattle.dt_plain.proofs.graph.add_ids.Goals as goal

pub loop-part-preserved : goal.loop-part-preserved
loop-part-preserved c =
    rw (take-at c.args.log.now c.loop-part.part-index c.part-item.result c.part-item.result c.loop-part-test.true c.part-item.is)
    (gets_more _ c.part-item.result _ _ _ c.loop-part.invariant c.in_ok-add_once.ensures)
