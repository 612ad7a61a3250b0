use Rattle.std.proofs.Common.{◌≡◌, take}
use Rattle.dt_graph.specs.SmallStepsInner.{Enters}
use Rattle.dt_graph.proofs.enter.enter_uses.Given as goal

abbrev pub invariant-loop-used : goal.invariant-loop-used
invariant-loop-used l = record {
  same : l.used-items ≡ l.fn.part.keys;
  entered : Enters l.fn.part.home l.fn.vertex (take l.used-index l.used-items) l.fn.queues l.queues l.fn.slots l.slots l.risen;
}
