use Rattle.std.proofs.Common.{◌≡◌, ℕ, ◌+◌, ◌*◌, ◌≤◌, List, ◌∷◌, ◌++◌, length}
use Rattle.dt_syntax.specs.declared.token.Placed.{Placed}
use Rattle.dt_syntax.specs.declared.token.Token.TheVariants as tok
use Rattle.dt_proc.specs.SecondPass.{check_block}
use Rattle.dt_syntax.specs.Grammar.{at, Statements, statements_tokens, AreStatements}
use Rattle.dt_proc.specs.WalkInner.{KeepsRoom}
use Rattle.dt_proc.proofs.StatementWalk.{StepsLeft}
use Rattle.dt_proc.proofs.statements.+blocks.Given as goal

abbrev pub decreases-block : goal.decreases-block
decreases-block l = 4 * length l.tokens.now + 3

abbrev pub decreases-step : goal.decreases-step
decreases-step l = 4 * length l.tokens.now + 2

abbrev pub decreases-if_step : goal.decreases-if_step
decreases-if_step l = 4 * length l.tokens.now + 2

abbrev pub decreases-branches : goal.decreases-branches
decreases-branches l = 4 * length l.tokens.now + 4

abbrev pub invariant-block-steps : goal.invariant-block-steps
invariant-block-steps l = record {
  shorter : length l.rest ≤ length l.tokens;
  room : KeepsRoom l.initial.scope l.tokens l.scope l.rest;
  outer : l.outer ≡ length l.initial.scope.variables;
  right : (ss : Statements) (e : ℕ) (rest : List Placed) → AreStatements ss → statements_tokens ss ++ at e tok.End ∷ rest ≡ l.tokens →
      StepsLeft l.initial.scope l.scope (check_block l.initial.scope ss) l.stmts l.rest e rest;
}

abbrev pub decreases-block-steps : goal.decreases-block-steps
decreases-block-steps l = length l.rest
