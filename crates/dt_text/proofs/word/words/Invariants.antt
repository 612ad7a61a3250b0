-- The words found and those from the place reached on are the words of the line.
use Rattle.std.proofs.Common.{◌≡◌, ◌≢◌, ◌<◌, ◌≤◌, ◌-◌, ◌++◌, drop, length, get_or, All}
use Rattle.std.specs.Option.{option_map}
use Rattle.dt_text.specs.Reading.{IsWordIn, words_from, words_of}
use Rattle.dt_text.proofs.word.words.Given as goal

abbrev pub invariant-loop-at : goal.invariant-loop-at
invariant-loop-at l = record {
  inside : l.at ≤ length l.line;
  no_space : l.at < length l.line → get_or l.line l.at 0 ≢ 32;
  within : All (IsWordIn l.line) l.found;
  same : option_map (λ ws. l.found ++ ws) (words_from l.at (drop l.at l.line)) ≡ words_of l.line;
}

abbrev pub decreases-loop-at : goal.decreases-loop-at
decreases-loop-at l = length l.line - l.at
