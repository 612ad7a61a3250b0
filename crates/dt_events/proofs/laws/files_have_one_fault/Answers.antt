use Rattle.dt_events.proofs.EveryFile.{one_fault}
use Rattle.dt_events.proofs.laws.files_have_one_fault.Goals as goal

pub returns : goal.returns
returns c = one_fault
