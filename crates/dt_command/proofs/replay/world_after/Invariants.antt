use Rattle.dt_command.proofs.Steps.{IsAfter}
use Rattle.dt_command.proofs.replay.world_after.Given as goal

-- the events so far are legal, and led to this world
abbrev pub invariant-loop-at : goal.invariant-loop-at
invariant-loop-at l = IsAfter l.fn.cluster l.fn.workload l.events l.at l.world
