-- The lines that are kept of the rest are those that were left at the call.
use Rattle.std.proofs.Common.{◌≡◌, ◌+◌, ◌<◌, ◌^◌, length}
use Rattle.dt_text.specs.Lines.{cut_lines, kept_lines}
use Rattle.dt_text.proofs.lines.Lines.next.Given as goal

abbrev pub invariant-loop-self : goal.invariant-loop-self
invariant-loop-self l = record {
  same : kept_lines (l.self-inside.passed + 1) (cut_lines l.self-inside.rest.now) ≡ l.fn.self;
  small : l.self-inside.passed + length l.self-inside.rest.now < 2 ^ 32;
}

abbrev pub decreases-loop-self : goal.decreases-loop-self
decreases-loop-self l = length l.self-inside.rest.now
