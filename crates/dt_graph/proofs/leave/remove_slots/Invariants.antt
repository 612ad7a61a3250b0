use Rattle.std.proofs.Common.{drop}
use Rattle.dt_graph.proofs.Removals.{IsTakingOut}
use Rattle.dt_graph.proofs.leave.remove_slots.Given as goal

abbrev pub invariant-loop-slot : goal.invariant-loop-slot
invariant-loop-slot l = IsTakingOut l.slots (drop l.slot-index l.slots) l.initial.queues l.queues
