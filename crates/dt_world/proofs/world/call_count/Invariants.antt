use Rattle.dt_world.proofs.world.call_count.Given as goal

-- nothing is claimed of the number so far
abbrev pub invariant-loop-session : goal.invariant-loop-session
invariant-loop-session l = Unit {0}
