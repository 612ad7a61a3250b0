-- The items so far stand for the text so far, and the words from the first place on are those from within the text word on.
use Rattle.std.proofs.Common.{◌≡◌, ◌<◌, ◌≤◌, ◌-◌, drop, length}
use Rattle.dt_text.specs.Texts.{IsStr}
use Rattle.dt_text.specs.Reading.{words_from, text_from}
use Rattle.dt_text.proofs.word.read_text.Given as goal

abbrev pub invariant-loop-end : goal.invariant-loop-end
invariant-loop-end l = record {
  after : l.at < l.end;
  inside : l.end ≤ length l.line;
  allowed : IsStr l.text.items;
  same : words_from l.at (drop l.at l.line) ≡ text_from l.text.items l.end (drop l.end l.line);
}

abbrev pub decreases-loop-end : goal.decreases-loop-end
decreases-loop-end l = length l.line - l.end
