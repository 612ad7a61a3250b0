-- The lines so far are the sessions so far.
use Rattle.std.proofs.Common.{◌≡◌, List, ◌++◌, length}
use Rattle.dt_lists.specs.Lists.{AllIn}
use Rattle.dt_text.specs.Lines.{FileLine, lines_of}
use Rattle.dt_workload.specs.File.{AreSessions}
use Rattle.dt_workload.specs.ReaderInner.{HasCount}
use Rattle.dt_text.proofs.Callers.{IsLineWithin}
use Rattle.dt_workload.proofs.reader.read_workload.Given as goal

abbrev pub invariant-loop-line : goal.invariant-loop-line
invariant-loop-line l =
    AllIn (IsLineWithin (length l.bytes)) l.lines × HasCount l.draft
    × ((before : List FileLine) × (before ++ l.lines ≡ lines_of l.bytes) × AreSessions l.cluster before l.draft.sessions.items)

abbrev pub decreases-loop-line : goal.decreases-loop-line
decreases-loop-line l = length l.lines
