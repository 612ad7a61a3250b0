use Rattle.std.proofs.Common.{rules, ◌∙◌, Some, None}
use Rattle.dt_syntax.proofs.NumberTokens.{number_is}
use Rattle.dt_syntax.proofs.lexer.number.Goals as goal

pub returns-in_err-value : goal.returns-in_err-value
returns-in_err-value c = c.from_residual.ensures ∙ number_is c.args.word.now None c.requires.digit (λ z f. c.in_err-value.ensures z f)

pub returns : goal.returns
returns c = let is = number_is c.args.word.now (Some c.in_ok-value.value) c.requires.digit c.in_ok-value.ensures in search (rules, is)
