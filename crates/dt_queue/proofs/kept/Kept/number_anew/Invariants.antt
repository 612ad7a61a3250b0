use Rattle.std.proofs.Common.{◌-◌, ◌^◌}
use Rattle.dt_queue.specs.NumbersInner.{IsNumbering}
use Rattle.dt_queue.proofs.kept.Kept.number_anew.Given as goal

abbrev pub invariant-loop-slot : goal.invariant-loop-slot
invariant-loop-slot l = IsNumbering l.initial.self l.self l.number

abbrev pub decreases-loop-slot : goal.decreases-loop-slot
decreases-loop-slot l = 2 ^ 64 - l.number
