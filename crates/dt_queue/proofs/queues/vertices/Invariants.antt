use Rattle.std.proofs.Common.{◌≡◌, map, take}
use Rattle.dt_queue.proofs.queues.vertices.Given as goal

abbrev pub invariant-loop-mark : goal.invariant-loop-mark
invariant-loop-mark l = l.vertices.items ≡ map (λ m. m.vertex) (take l.mark-index l.marks)
