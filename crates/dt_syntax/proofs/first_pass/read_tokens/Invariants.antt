use Rattle.std.proofs.Common.{◌-◌, length, reverse}
use Rattle.dt_syntax.proofs.FirstPassLoop.{Reading}
use Rattle.dt_syntax.proofs.first_pass.read_tokens.Given as goal

abbrev pub invariant-loop-at : goal.invariant-loop-at
invariant-loop-at l = Reading l.text l.tokens.items (reverse l.stack.items) l.counts l.at

abbrev pub decreases-loop-at : goal.decreases-loop-at
decreases-loop-at l = length l.text - l.at
