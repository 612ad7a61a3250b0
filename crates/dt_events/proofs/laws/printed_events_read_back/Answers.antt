use Rattle.dt_events.proofs.PrintedEvents.{reads_back}
use Rattle.dt_events.proofs.laws.printed_events_read_back.Goals as goal

pub returns : goal.returns
returns c = reads_back
