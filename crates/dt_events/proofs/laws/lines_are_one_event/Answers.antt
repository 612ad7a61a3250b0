use Rattle.dt_events.proofs.PrintedEvents.{one_event}
use Rattle.dt_events.proofs.laws.lines_are_one_event.Goals as goal

pub returns : goal.returns
returns c = one_event
