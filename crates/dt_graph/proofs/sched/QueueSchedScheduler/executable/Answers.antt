use Rattle.dt_waits.proofs.Callers.{ready_executable}
use Rattle.dt_graph.proofs.sched.QueueSchedScheduler.executable.Goals as goal

pub returns : goal.returns
returns c =
    let r = ready_executable _ c.self.inside.graph c.self.invariant c.args.id in
    rw (← c.self.view_is) (λ t. r.0 (c.is_ready.ensures.0 t), λ x. c.is_ready.ensures.1 (r.1 x))
