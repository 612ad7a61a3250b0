-- The events so far.
use Rattle.std.proofs.Common.{take}
use Rattle.dt_lists.specs.Lists.{AllIn}
use Rattle.dt_events.specs.Events.{IsWritten}
use Rattle.dt_report.proofs.printable.events_are_written.Given as goal

abbrev pub invariant-loop-event : goal.invariant-loop-event
invariant-loop-event l = AllIn IsWritten (take l.event-index l.events)
