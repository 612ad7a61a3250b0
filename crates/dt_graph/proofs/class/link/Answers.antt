use Rattle.dt_graph.specs.LinksInner.{IsSourceOf}
use Rattle.dt_graph.proofs.WaitEdges.{links_next}
use Rattle.dt_graph.proofs.class.link.Goals as goal

pub loop-slot-preserved : goal.loop-slot-preserved
loop-slot-preserved c = links_next (IsSourceOf c.args.queues.now) _ _ _ _ _ _ _ _ _ c.loop-slot-test.true c.loop-slot.invariant c.in_ok-blocked.ensures
