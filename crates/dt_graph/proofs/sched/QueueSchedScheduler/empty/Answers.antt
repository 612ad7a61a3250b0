use Rattle.dt_waits.proofs.Callers.{keeping_first}
use Rattle.dt_graph.proofs.sched.QueueSchedScheduler.empty.Goals as goal

pub invariant_of-result : goal.invariant_of-result
invariant_of-result c = rw (c.nothing.ensures, c.new.ensures) (keeping_first c.args.regions)
