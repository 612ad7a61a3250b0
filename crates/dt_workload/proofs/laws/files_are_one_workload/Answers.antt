use Rattle.dt_workload.proofs.OneFile.{one_workload}
use Rattle.dt_workload.proofs.laws.files_are_one_workload.Goals as goal

pub returns : goal.returns
returns c = one_workload
