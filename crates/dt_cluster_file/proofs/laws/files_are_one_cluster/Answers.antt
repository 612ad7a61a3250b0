use Rattle.dt_cluster_file.proofs.OneCluster.{one_cluster}
use Rattle.dt_cluster_file.proofs.laws.files_are_one_cluster.Goals as goal

pub returns : goal.returns
returns c = one_cluster
