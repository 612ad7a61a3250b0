use Rattle.std.proofs.Common.{length}
use Rattle.dt_proc.proofs.keys.+more_keys.Given as goal

abbrev pub decreases-more_keys : goal.decreases-more_keys
decreases-more_keys l = length l.tokens.now
