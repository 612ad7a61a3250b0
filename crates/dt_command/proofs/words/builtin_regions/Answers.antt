use Rattle.std.proofs.Common.{arith}
use Rattle.dt_command.proofs.WordForms.{builtin_length, builtin_digit, read_builtin}
use Rattle.dt_command.proofs.words.builtin_regions.Goals as goal

pub returns-in-58 : goal.returns-in-58
returns-in-58 c = read_builtin c.args.word.now (omega arith) (omega arith) (omega arith) (omega arith)

-- a word of one byte or none, one whose digit is too low or too high, and one of three bytes or more
pub returns-in_default : goal.returns-in_default
returns-in_default c = λ n is e. omega (arith, builtin_length c.args.word.now n is e)

pub returns-in_default-2 : goal.returns-in_default-2
returns-in_default-2 c = λ n is e. omega (arith, builtin_digit c.args.word.now n is e, is.0)

pub returns-in_default-3 : goal.returns-in_default-3
returns-in_default-3 c = λ n is e. omega (arith, builtin_digit c.args.word.now n is e, is.1)

pub returns-in_default-5 : goal.returns-in_default-5
returns-in_default-5 c = λ n is e. omega (arith, builtin_length c.args.word.now n is e)
