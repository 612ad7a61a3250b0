use Rattle.dt_lists.specs.Lists.{AllIn}
use Rattle.dt_queue.specs.Queues.{IsQueued}
use Rattle.dt_test_graph.proofs.queues.queued.Given as goal

abbrev pub invariant-loop-entry : goal.invariant-loop-entry
invariant-loop-entry l = AllIn (λ slot. IsQueued l.queues slot) l.slots.items
