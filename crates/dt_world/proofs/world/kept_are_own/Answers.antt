use Rattle.dt_world.proofs.KeptLaws.{kept_is_own}
use Rattle.dt_world.proofs.world.kept_are_own.Goals as goal

pub returns : goal.returns
returns c = λ cluster workload events region lr. kept_is_own cluster workload region events lr
