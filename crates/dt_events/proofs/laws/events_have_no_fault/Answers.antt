use Rattle.dt_events.proofs.EveryFile.{no_fault}
use Rattle.dt_events.proofs.laws.events_have_no_fault.Goals as goal

pub returns : goal.returns
returns c = no_fault
