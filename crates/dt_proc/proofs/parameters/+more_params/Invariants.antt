use Rattle.std.proofs.Common.{length}
use Rattle.dt_proc.proofs.parameters.+more_params.Given as goal

abbrev pub decreases-more_params : goal.decreases-more_params
decreases-more_params l = length l.tokens.now
