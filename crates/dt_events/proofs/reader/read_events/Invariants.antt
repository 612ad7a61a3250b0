use Rattle.std.proofs.Common.{ℕ, List, ◌++◌, length}
use Rattle.dt_lists.specs.Lists.{AllIn, Pairwise}
use Rattle.dt_text.specs.Lines.{lines_of}
use Rattle.dt_events.specs.declared.event.Event.{Event}
use Rattle.dt_events.specs.Events.{FirstWithoutForm, IsNumberedEvent}
use Rattle.dt_text.proofs.Callers.{IsLineWithin}
use Rattle.dt_events.proofs.reader.read_events.Given as goal

abbrev pub invariant-loop-line : goal.invariant-loop-line
invariant-loop-line l =
    AllIn (IsLineWithin (length l.bytes)) l.lines
    × ((rest : List (ℕ × Event)) → Pairwise IsNumberedEvent l.lines rest → Pairwise IsNumberedEvent (lines_of l.bytes) (l.events ++ rest))
    × ((number : ℕ) → FirstWithoutForm l.lines number → FirstWithoutForm (lines_of l.bytes) number)

abbrev pub decreases-loop-line : goal.decreases-loop-line
decreases-loop-line l = length l.lines
