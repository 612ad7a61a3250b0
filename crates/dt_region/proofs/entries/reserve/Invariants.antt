use Rattle.std.proofs.Common.{◌≡◌}
use Rattle.dt_region.proofs.entries.reserve.Given as goal

abbrev pub invariant-loop-log : goal.invariant-loop-log
invariant-loop-log l = l.logs ≡ l.fn.logs
