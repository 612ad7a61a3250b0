use Rattle.dt_report.proofs.EventsOfText.{tell_events}
use Rattle.dt_report.proofs.laws.texts_tell_events.Goals as goal

pub returns : goal.returns
returns c = tell_events
