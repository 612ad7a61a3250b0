use Rattle.dt_world.proofs.Opening.{sessions_more}
use Rattle.dt_world.proofs.world.sessions.Goals as goal

pub loop-region-preserved : goal.loop-region-preserved
loop-region-preserved c = sessions_more c.args.cluster.now c.args.workload.now c.loop-region.region c.loop-region.all.items c.push.new.self.items c.in_ok-new.field-0
    c.loop-region.invariant c.in_ok-new.ensures c.in_ok-push.ensures.items
