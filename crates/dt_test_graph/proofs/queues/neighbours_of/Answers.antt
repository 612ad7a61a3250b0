use Rattle.dt_queue.proofs.Callers.{pushed_waits}
use Rattle.dt_test_graph.proofs.queues.neighbours_of.Goals as goal

pub neighbours-requires : goal.neighbours-requires
neighbours-requires c = rw c.in_ok-slot.ensures.added (pushed_waits c.args.queues.now _)
