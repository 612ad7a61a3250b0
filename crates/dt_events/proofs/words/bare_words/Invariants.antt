-- The words found and those from the place reached on are the words of the line.
use Rattle.std.proofs.Common.{◌≢◌, ◌<◌, ◌≤◌, ◌-◌, length, get_or}
use Rattle.dt_events.specs.ReadingInner.{spelled, AreShort}
use Rattle.dt_events.proofs.BareWords.{AreSoFar}
use Rattle.dt_events.proofs.words.bare_words.Given as goal

abbrev pub invariant-loop-at : goal.invariant-loop-at
invariant-loop-at l = record {
  inside : l.at ≤ length l.line;
  no_space : l.at < length l.line → get_or l.line l.at 0 ≢ 32;
  short : AreShort (spelled l.found.items);
  so_far : AreSoFar l.line (spelled l.found.items) l.at;
}

abbrev pub decreases-loop-at : goal.decreases-loop-at
decreases-loop-at l = length l.line - l.at
