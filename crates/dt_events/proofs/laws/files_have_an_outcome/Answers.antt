use Rattle.dt_events.proofs.EveryFile.{every_file}
use Rattle.dt_events.proofs.laws.files_have_an_outcome.Goals as goal

pub returns : goal.returns
returns c = every_file
