use Rattle.std.proofs.Common.{take}
use Rattle.dt_sched.specs.Views.{HasPart}
use Rattle.dt_test_round.proofs.feeding.has_part.Given as goal

abbrev pub invariant-loop-place : goal.invariant-loop-place
invariant-loop-place l = ¬ (HasPart (take l.place l.log) l.id)
