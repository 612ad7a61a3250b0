use Rattle.dt_cluster_file.proofs.OneCluster.{one_fault}
use Rattle.dt_cluster_file.proofs.laws.files_have_one_fault.Goals as goal

pub returns : goal.returns
returns c = one_fault
