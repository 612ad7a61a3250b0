use Rattle.std.proofs.Common.{◌≡◌, ℕ, List, length}
use Rattle.dt_queue.specs.Queues.{Waiting}
use Rattle.dt_graph.specs.SmallStepsInner.{Pushes}
use Rattle.dt_graph.proofs.enter.take_back.Given as goal

abbrev pub invariant-loop-slots : goal.invariant-loop-slots
invariant-loop-slots l = (vertex : ℕ) (old : List Waiting) (kept : List ℕ) → length kept ≡ l.fn.count → Pushes vertex old l.fn.queues kept l.fn.slots → Pushes vertex old l.queues kept l.slots

abbrev pub decreases-loop-slots : goal.decreases-loop-slots
decreases-loop-slots l = length l.slots
