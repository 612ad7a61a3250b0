use Rattle.std.proofs.Common.{length}
use Rattle.dt_proc.proofs.keys.+more_parts.Given as goal

abbrev pub decreases-more_parts : goal.decreases-more_parts
decreases-more_parts l = length l.tokens.now
