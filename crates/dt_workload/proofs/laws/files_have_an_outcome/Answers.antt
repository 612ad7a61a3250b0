use Rattle.dt_workload.proofs.Outcomes.{every_file}
use Rattle.dt_workload.proofs.laws.files_have_an_outcome.Goals as goal

pub returns : goal.returns
returns c = every_file
