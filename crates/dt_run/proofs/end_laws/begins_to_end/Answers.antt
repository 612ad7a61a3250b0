use Rattle.dt_run.proofs.RunEnds.{opening_ends}
use Rattle.dt_run.proofs.end_laws.begins_to_end.Goals as goal

pub returns : goal.returns
returns c = opening_ends
