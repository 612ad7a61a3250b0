use Rattle.dt_cluster_file.proofs.EveryCluster.{every_file}
use Rattle.dt_cluster_file.proofs.laws.files_have_an_outcome.Goals as goal

pub returns : goal.returns
returns c = every_file
