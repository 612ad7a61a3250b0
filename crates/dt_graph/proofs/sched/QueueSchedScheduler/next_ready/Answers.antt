use Rattle.dt_waits.proofs.Callers.{next_ready_told}
use Rattle.dt_graph.proofs.sched.QueueSchedScheduler.next_ready.Goals as goal

pub returns : goal.returns
returns c = rw (← c.self.view_is) (next_ready_told _ c.self.inside.graph c.self.invariant c.args.busy.now c.ready_beside.result c.ready_beside.ensures)
