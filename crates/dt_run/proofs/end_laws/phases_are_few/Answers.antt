use Rattle.dt_run.proofs.RunEnds.{phases_few}
use Rattle.dt_run.proofs.end_laws.phases_are_few.Goals as goal

pub returns : goal.returns
returns c = λ v e left. phases_few e left
