use Rattle.dt_workload.proofs.OneFile.{one_workload_fault}
use Rattle.dt_workload.proofs.laws.files_have_one_fault.Goals as goal

pub returns : goal.returns
returns c = one_workload_fault
