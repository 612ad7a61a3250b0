use Rattle.dt_merge.specs.WorldRegions.{world_regions}
use Rattle.dt_merge.proofs.SideBySide.{commute}
use Rattle.dt_merge.proofs.Worlds.{world_local}
use Rattle.dt_merge.proofs.laws.commuting.Goals as goal

pub returns : goal.returns
returns c cluster workload ok fits w d e good legal_d legal_e apart = commute (world_regions cluster workload) (world_local cluster ok workload fits) w good d e legal_d legal_e apart
