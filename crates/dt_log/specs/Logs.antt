-- What it is to take a delivery of log entries into a log. A home's log reaches the other regions in packets that may
-- come twice, or overlap what was received: what is there already is left alone, what is new is added at the back, and a
-- packet that would leave a gap is refused. So what a region has of a log is a front of it, always. Read next: Views.antt
-- of dt_sched, what a region makes of the fronts that it has.
use Rattle.std.specs.Prelude.{◌≡◌, ℕ, ◌+◌, ◌-◌, ◌<◌, ◌≤◌, ◌⊎◌, List, ◌++◌, length, drop, Result, Ok, Err}
use Rattle.dt_lists.specs.Lists.{IsFront}
use Rattle.dt_text.specs.declared.NoMemory.{NoMemory}
use Rattle.dt_access.specs.declared.Part.{Part}
use Rattle.dt_log.specs.declared.Taken.{Taken}
use Rattle.dt_log.specs.declared.Taken.TheVariants.{New, Old, Gap}

-- entries from place `first` on equal the log where the two overlap: of them and of what the log has from there on,
-- one is a front of the other
abbrev pub AgreeOnOverlap : List Part → ℕ → List Part → Type 0
AgreeOnOverlap log first entries = IsFront entries (drop first log) ⊎ IsFront (drop first log) entries

-- the log has the entries from place `first` on
abbrev pub StandFrom : List Part → ℕ → List Part → Type 0
StandFrom log first entries = IsFront entries (drop first log)

-- what taking entries from place `first` on makes of a log, and how it is answered: nothing is taken across a gap;
-- old entries change nothing; otherwise the last n of them, those past the log's end, are added; and where memory
-- lacked for these, the log is as before
abbrev pub Takes : List Part → ℕ → List Part → Result Taken NoMemory → List Part → Type 0
Takes log first entries (Ok Gap) after = (length log < first) × (after ≡ log)
Takes log first entries (Ok Old) after = (first ≤ length log) × (first + length entries ≤ length log) × (after ≡ log)
Takes log first entries (Ok (New n)) after =
    (first ≤ length log) × (length log < first + length entries) × (length log + n ≡ first + length entries) × (after ≡ log ++ drop (length entries - n) entries)
Takes log first entries (Err e) after = (first ≤ length log) × (length log < first + length entries) × (after ≡ log)
