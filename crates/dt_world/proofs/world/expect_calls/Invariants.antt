use Rattle.std.proofs.Common.{◌≡◌}
use Rattle.dt_world.proofs.world.expect_calls.Given as goal

abbrev pub invariant-loop-site : goal.invariant-loop-site
invariant-loop-site g l = l.sites ≡ l.fn.sites
