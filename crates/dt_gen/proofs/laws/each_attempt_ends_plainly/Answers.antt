use Rattle.dt_gen.proofs.LoadWorlds.{each_end}
use Rattle.dt_gen.proofs.laws.each_attempt_ends_plainly.Goals as goal

pub returns : goal.returns
returns c = each_end
