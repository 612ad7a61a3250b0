use Rattle.dt_queue.specs.NumbersInner.{IsFirstBelow}
use Rattle.dt_queue.proofs.kept.Kept.first_from.Given as goal

abbrev pub invariant-loop-slot : goal.invariant-loop-slot
invariant-loop-slot l = IsFirstBelow l.self.cells l.number l.slot l.limit l.first
