use Rattle.dt_merge.specs.WorldRegions.{world_regions}
use Rattle.dt_merge.proofs.SideBySide as law
use Rattle.dt_merge.proofs.Worlds.{world_local}
use Rattle.dt_merge.proofs.laws.side_by_side.Goals as goal

pub returns : goal.returns
returns c cluster workload ok fits w good turns regions are = law.side_by_side (world_regions cluster workload) (world_local cluster ok workload fits) w good turns regions are
