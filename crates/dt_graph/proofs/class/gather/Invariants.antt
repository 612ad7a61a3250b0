use Rattle.dt_graph.proofs.WaitGraph.{IsGathering}
use Rattle.dt_graph.proofs.class.gather.Given as goal

abbrev pub invariant-loop-place : goal.invariant-loop-place
invariant-loop-place l = IsGathering l.queues l.list l.place l.graph l.blocked.items
