use Rattle.std.proofs.Common.{length}
use Rattle.dt_region.proofs.requests.+ask.Given as goal

abbrev pub decreases-ask : goal.decreases-ask
decreases-ask l = length l.homes.now
