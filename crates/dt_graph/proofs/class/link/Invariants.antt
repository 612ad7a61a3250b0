use Rattle.std.proofs.Common.{take}
use Rattle.dt_graph.specs.LinksInner.{IsSourceAt, HasLinked}
use Rattle.dt_graph.proofs.class.link.Given as goal

abbrev pub invariant-loop-slot : goal.invariant-loop-slot
invariant-loop-slot l = HasLinked (IsSourceAt l.queues (take l.slot-index l.slots)) l.group l.place l.initial.graph l.graph l.blocked
