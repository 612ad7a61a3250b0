use Rattle.dt_workload.proofs.OneFile.{no_workload_fault}
use Rattle.dt_workload.proofs.laws.workloads_have_no_fault.Goals as goal

pub returns : goal.returns
returns c = no_workload_fault
