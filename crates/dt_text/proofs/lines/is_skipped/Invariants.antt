-- What is left of the line is skipped exactly where the line is.
use Rattle.std.proofs.Common.{◌≡◌, drop}
use Rattle.dt_text.specs.Lines.{is_skipped}
use Rattle.dt_text.proofs.lines.is_skipped.Given as goal

abbrev pub invariant-loop-byte : goal.invariant-loop-byte
invariant-loop-byte l = is_skipped (drop l.byte-index l.line) ≡ is_skipped l.line
