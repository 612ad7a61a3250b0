-- A bare word that ends after the place reached ends there from the first place on too.
use Rattle.std.proofs.Common.{◌≤◌, ◌-◌, ℕ, length}
use Rattle.dt_text.specs.Reading.{BareEndsAt}
use Rattle.dt_text.proofs.word.bare_end.Given as goal

abbrev pub invariant-loop-end : goal.invariant-loop-end
invariant-loop-end l = record {
  after : l.at ≤ l.end;
  inside : l.end ≤ length l.line;
  same : (last : ℕ) → BareEndsAt l.line l.end last → BareEndsAt l.line l.at last;
}

abbrev pub decreases-loop-end : goal.decreases-loop-end
decreases-loop-end l = length l.line - l.end
