use Rattle.std.proofs.Common.{◌+◌, ◌-◌, ◌*◌, length}
use Rattle.dt_proc.proofs.expressions.+levels.Given as goal

abbrev pub decreases-expression : goal.decreases-expression
decreases-expression l = 16 * length l.tokens.now + (7 - l.level)

abbrev pub decreases-inside : goal.decreases-inside
decreases-inside l = 16 * length l.tokens.now + 8

abbrev pub decreases-links : goal.decreases-links
decreases-links l = 16 * length l.tokens.now + 8

abbrev pub decreases-of_atom : goal.decreases-of_atom
decreases-of_atom l = 16 * length l.tokens.now + 2

abbrev pub decreases-of_brackets : goal.decreases-of_brackets
decreases-of_brackets l = 16 * length l.tokens.now + 8

abbrev pub decreases-operand : goal.decreases-operand
decreases-operand l = 16 * length l.tokens.now
