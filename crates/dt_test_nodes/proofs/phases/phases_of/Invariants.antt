use Rattle.std.proofs.Common.{◌≡◌, false}
use Rattle.dt_test_nodes.proofs.phases.phases_of.Given as goal

-- no phase has failed
abbrev pub invariant-loop-phase : goal.invariant-loop-phase
invariant-loop-phase g l = l.nodes.broken ≡ false
