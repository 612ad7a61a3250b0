use Rattle.dt_cluster_file.proofs.OneCluster.{no_fault}
use Rattle.dt_cluster_file.proofs.laws.clusters_have_no_fault.Goals as goal

pub returns : goal.returns
returns c = no_fault
