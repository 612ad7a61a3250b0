-- The answers so far.
use Rattle.std.proofs.Common.{◌≡◌, ◌≤◌, take}
use Rattle.dt_gen.specs.Summary.{kept_answers}
use Rattle.dt_gen.proofs.summaries.kept_answers.Given as goal

abbrev pub invariant-loop-stamped : goal.invariant-loop-stamped
invariant-loop-stamped l = (l.count ≡ kept_answers (take l.stamped-index l.kept)) × (l.count ≤ l.stamped-index)
