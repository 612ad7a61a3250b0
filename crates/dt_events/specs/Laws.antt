-- Why a file of events is as good as the events: a line is one event at most, and what was printed is read back as the
-- same events, in order. So the run that was printed is the run that is played. And each file is one list of events, or has
-- one first line without a form, and not both: the answer of the reader is the only one that a file can have, memory
-- aside. Read next: `Step` of dt_session, for which events are legal.
use Rattle.std.specs.Prelude.{◌≡◌, ◌⊎◌, ℕ, ◌↔◌, List}
use Rattle.std.specs.List.{flat_map, enumerate_from}
use Rattle.dt_lists.specs.Lists.{AllIn}
use Rattle.dt_events.specs.declared.event.Event.{Event}
use Rattle.dt_events.specs.Events.{IsWritten, IsEventLine, AreEvents, FirstWithoutForm, event_line}
use Rattle.dt_text.specs.Lines.{lines_of}

-- a line is one event at most
abbrev pub LinesAreOneEvent : Type 0
LinesAreOneEvent = (line : List ℕ) (d e : Event) → IsEventLine line d → IsEventLine line e → d ≡ e

-- a file of printed events, one after another, is these events, numbered from 1, and no others
abbrev pub PrintedEventsReadBack : Type 0
PrintedEventsReadBack =
    (events : List Event) → AllIn IsWritten events → (read : List (ℕ × Event))
    → AreEvents (flat_map event_line events) read ↔ (read ≡ enumerate_from 1 events)

-- a file is one list of events at most
abbrev pub EventFilesAreOneList : Type 0
EventFilesAreOneList = (file : List ℕ) (d e : List (ℕ × Event)) → AreEvents file d → AreEvents file e → d ≡ e

-- a file that is a list of events has no line without a form
abbrev pub EventsHaveNoFault : Type 0
EventsHaveNoFault = (file : List ℕ) (events : List (ℕ × Event)) (number : ℕ) → AreEvents file events → ¬ FirstWithoutForm (lines_of file) number

-- a file has one first line without a form at most
abbrev pub EventFilesHaveOneFault : Type 0
EventFilesHaveOneFault = (file : List ℕ) (m n : ℕ) → FirstWithoutForm (lines_of file) m → FirstWithoutForm (lines_of file) n → m ≡ n

-- every file is a list of events or has a first line without a form
abbrev pub EventFilesHaveAnOutcome : Type 0
EventFilesHaveAnOutcome =
    (file : List ℕ) → ((events : List (ℕ × Event)) × AreEvents file events) ⊎ ((number : ℕ) × FirstWithoutForm (lines_of file) number)
