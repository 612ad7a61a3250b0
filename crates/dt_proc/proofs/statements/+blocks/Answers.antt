use Rattle.std.proofs.Common.{inl, inr, ◌∷◌, ◌++◌, ap, sym, subst, ◌∙◌, refl, arith, length, ⊎_elim, take}
use Rattle.std.proofs.lemmas.Grind.{common_steps}
use Rattle.std.proofs.lemmas.Result.{err_from_is_err_and}
use Rattle.dt_syntax.specs.declared.token.Token.TheVariants as tok
use Rattle.dt_proc.specs.SecondPass.{check_statement, check_block}
use Rattle.dt_proc.specs.TreeViews.{stmt_tree}
use Rattle.dt_syntax.specs.Grammar.{at, statements_tokens}
use Rattle.dt_proc.proofs.ExprWalk.{told_right}
use Rattle.dt_proc.proofs.Rooms.{room_left}
use Rattle.dt_proc.specs.WalkInner.{StartsBlock, StartsBranches}
use Rattle.dt_proc.proofs.StatementWalk.{if_starts, else_starts, not_ended, ended, step_told, step_fault, left_as_before}
use Rattle.dt_syntax.proofs.Callers.{step_when, some_statement, no_statement}
use Rattle.dt_proc.proofs.statements.+blocks.Goals as goal

pub step-returns-in-Let-clause-right : goal.step-returns-in-Let-clause-right
step-returns-in-Let-clause-right t c = λ s rest h no e.
    let k = step_when s rest c.args.tokens.now c.first-item.result tok.Let h c.in-len1-up.len_at_least c.first-item.is e c.in-Let.is in
    told_right _ _ _ _ (ap (check_statement c.args.scope.now) k.5) (c.let_step.ensures.right c.first-item.result.place k.0 k.1 k.2 k.3 k.4 rest k.6 k.7)

pub step-returns-in-Set-clause-right : goal.step-returns-in-Set-clause-right
step-returns-in-Set-clause-right t c = λ s rest h no e.
    let k = step_when s rest c.args.tokens.now c.first-item.result tok.Set h c.in-len1-up.len_at_least c.first-item.is e c.in-Set.is in
    told_right _ _ _ _ (ap (check_statement c.args.scope.now) k.5) (c.set_step.ensures.right k.0 k.1 k.2 k.3 k.4 rest k.6 k.7)

pub step-returns-in-Clear-clause-right : goal.step-returns-in-Clear-clause-right
step-returns-in-Clear-clause-right t c = λ s rest h no e.
    let k = step_when s rest c.args.tokens.now c.first-item.result tok.Clear h c.in-len1-up.len_at_least c.first-item.is e c.in-Clear.is in
    told_right _ _ _ _ (ap (check_statement c.args.scope.now) k.3) (c.clear_step.ensures.right c.first-item.result.place k.0 k.1 k.2 rest k.4)

pub step-returns-in-Abort-clause-right : goal.step-returns-in-Abort-clause-right
step-returns-in-Abort-clause-right t c = λ s rest h no e.
    let k = step_when s rest c.args.tokens.now c.first-item.result tok.Abort h c.in-len1-up.len_at_least c.first-item.is e c.in-Abort.is in
    told_right _ _ _ _ (ap (check_statement c.args.scope.now) k.3) (c.abort_step.ensures.right c.args.scope.now c.first-item.result.place k.0 k.1 k.2 rest k.4)

pub step-returns-in-Give-clause-right : goal.step-returns-in-Give-clause-right
step-returns-in-Give-clause-right t c = λ s rest h no e.
    let k = step_when s rest c.args.tokens.now c.first-item.result tok.Give h c.in-len1-up.len_at_least c.first-item.is e c.in-Give.is in
    told_right _ _ _ _ (ap (check_statement c.args.scope.now) k.3) (c.give_step.ensures.right c.first-item.result.place k.0 k.1 k.2 rest k.4 k.5 k.6)

pub step-returns-in-If-clause-right : goal.step-returns-in-If-clause-right
step-returns-in-If-clause-right t c = λ s rest h no e.
    let k = step_when s rest c.args.tokens.now c.first-item.result tok.If h c.in-len1-up.len_at_least c.first-item.is e c.in-If.is in
    ⊎_elim
    (λ k. told_right _ _ _ _ (ap (check_statement c.args.scope.now) k.4) (c.if_step.ensures.one k.0 k.1 k.2 k.3 rest k.5 k.6 no k.7))
    (λ k. told_right _ _ _ _ (ap (check_statement c.args.scope.now) k.8) (c.if_step.ensures.two k.0 k.1 k.2 k.3 k.4 k.5 k.6 k.7 rest k.9 k.10 k.11 k.12))
    k

pub block-steps-preserved : goal.block-steps-preserved
block-steps-preserved t c = record {
  shorter = omega (arith, c.in_ok-stmt.ensures.shorter, c.steps.invariant.shorter);
  room = omega (arith, c.in_ok-stmt.ensures.room, c.steps.invariant.room);
  outer = c.steps.invariant.outer;
  right = λ ss e rest h is.
      let before = c.steps.invariant.right ss e rest h is in
      let n = not_ended c.args.scope.now c.steps.scope (check_block c.args.scope.now ss) c.steps.stmts c.steps.rest.now e rest c.steps-test.ensures before in
      let told = c.in_ok-stmt.ensures.right n.step (statements_tokens n.more ++ at e tok.End ∷ rest) n.good n.follows n.cut in
      step_told c.args.scope.now c.steps.scope c.step.new.scope (check_block c.args.scope.now ss) c.steps.stmts c.push.new.self c.steps.rest.now e rest
      (stmt_tree c.in_ok-stmt.stmt) c.in_ok-stmt.after.now before.4 n told.0 c.in_ok-push.ensures.added told.1;
}

pub block-returns-in_err-stmt-clause-right : goal.block-returns-in_err-stmt-clause-right
block-returns-in_err-stmt-clause-right t c = λ ss e rest h is.
    let p = err_from_is_err_and c.from_residual.result c.from_residual.ensures.1 in
    let before = c.steps.invariant.right ss e rest h is in
    let n = not_ended c.args.scope.now c.steps.scope (check_block c.args.scope.now ss) c.steps.stmts c.steps.rest.now e rest c.steps-test.ensures before in
    rw (p.1, p.2) (
      step_fault c.steps.scope (check_block c.args.scope.now ss) c.steps.stmts c.steps.rest.now e rest (statements_tokens n.more ++ at e tok.End ∷ rest) _ n
          (c.in_err-stmt.ensures.right n.step (statements_tokens n.more ++ at e tok.End ∷ rest) n.good n.follows n.cut),
      tt,
    )

pub block-returns-clause-right : goal.block-returns-clause-right
block-returns-clause-right t c = λ ss e rest h is.
    let end = ended c.args.scope.now c.steps.scope (check_block c.args.scope.now ss) c.steps.stmts c.steps.rest.now e rest c.steps-test.ensures (c.steps.invariant.right ss e rest h is) in (
      (end.0, c.after_one.ensures.right (at e tok.End) rest end.1),
      c.leave.ensures ∙ ap (λ n. record c.steps.scope { variables = take n c.steps.scope.variables }) c.variables-outer.ensures
          ∙ left_as_before c.args.scope.now c.steps.scope end.2,
    )

pub block-returns-clause-room : goal.block-returns-clause-room
block-returns-clause-room t c =
    room_left c.args.scope.now c.steps.scope _ _ c.args.tokens.now c.steps.rest.now _ c.steps.invariant.room c.leave.ensures (omega (arith, c.after_one.ensures.shorter))

-- ---- what each walk needs of the tokens

pub step-let_step-requires-clause-starts : goal.step-let_step-requires-clause-starts
step-let_step-requires-clause-starts t c =
    let s = c.requires.starts in
    let k = step_when s.one s.rest c.args.tokens.now c.first-item.result tok.Let s.good c.in-len1-up.len_at_least c.first-item.is s.cut c.in-Let.is in
    record { name_at = k.0; name = k.1; is_at = k.2; value = k.3; end_at = k.4; rest = s.rest; good = k.6; cut = k.7 }

pub step-set_step-requires : goal.step-set_step-requires
step-set_step-requires t c =
    let s = c.requires.starts in
    let k = step_when s.one s.rest c.args.tokens.now c.first-item.result tok.Set s.good c.in-len1-up.len_at_least c.first-item.is s.cut c.in-Set.is in
    record { starts = record { name_at = k.0; name = k.1; is_at = k.2; value = k.3; end_at = k.4; rest = s.rest; good = k.6; cut = k.7 } }

pub step-clear_step-requires : goal.step-clear_step-requires
step-clear_step-requires t c =
    let s = c.requires.starts in
    let k = step_when s.one s.rest c.args.tokens.now c.first-item.result tok.Clear s.good c.in-len1-up.len_at_least c.first-item.is s.cut c.in-Clear.is in
    record { starts = record { name_at = k.0; name = k.1; end_at = k.2; rest = s.rest; cut = k.4 } }

pub step-abort_step-requires : goal.step-abort_step-requires
step-abort_step-requires t c =
    let s = c.requires.starts in
    let k = step_when s.one s.rest c.args.tokens.now c.first-item.result tok.Abort s.good c.in-len1-up.len_at_least c.first-item.is s.cut c.in-Abort.is in
    record { starts = record { text_at = k.0; text = k.1; end_at = k.2; rest = s.rest; cut = k.4 } }

pub step-give_step-requires : goal.step-give_step-requires
step-give_step-requires t c =
    let s = c.requires.starts in
    let k = step_when s.one s.rest c.args.tokens.now c.first-item.result tok.Give s.good c.in-len1-up.len_at_least c.first-item.is s.cut c.in-Give.is in
    record { starts = record { one = k.0; more = k.1; end_at = k.2; rest = s.rest; good = k.4; others = k.5; cut = k.6 } }

pub step-if_step-requires : goal.step-if_step-requires
step-if_step-requires t c =
    let s = c.requires.starts in
    let k = step_when s.one s.rest c.args.tokens.now c.first-item.result tok.If s.good c.in-len1-up.len_at_least c.first-item.is s.cut c.in-If.is in (
      grind (arith, common_steps),
      (
        grind (arith, common_steps),
        if_starts _ s.rest s.follows (⊎_elim
            (λ k. inl (k.0, k.1, k.2, k.3, k.5, k.6, k.7))
            (λ k. inr (k.0, k.1, k.2, k.3, k.4, k.5, k.6, k.7, k.9, k.10, k.11, k.12)) k),
      ),
    )

pub step-unreachable-requires : goal.step-unreachable-requires
step-unreachable-requires t c =
    let s = c.requires.starts in
    some_statement s.one s.rest c.args.tokens.now c.in_default.len_below s.cut

pub step-unreachable-requires-in_default-token : goal.step-unreachable-requires-in_default-token
step-unreachable-requires-in_default-token t c =
    let s = c.requires.starts in
    let k = step_when s.one s.rest c.args.tokens.now c.first-item.result c.first-item.result.token s.good c.in-len1-up.len_at_least c.first-item.is s.cut refl in
    no_statement c.first-item.result.token c.first-item.result.place _ s.one s.rest c.in_default-token.not-Let c.in_default-token.not-Set
    c.in_default-token.not-Clear c.in_default-token.not-If c.in_default-token.not-Abort c.in_default-token.not-Give k

pub if_step-branches-requires : goal.if_step-branches-requires
if_step-branches-requires t c =
    let s = c.requires.starts in
    let told = c.in_ok-test.ensures.right s.test (at s.begin_at tok.Begin ∷ s.after) s.good tt s.cut in
    let one = c.after_one.ensures.right (at s.begin_at tok.Begin) s.after (sym told.1) in (
      omega (arith, c.decreases, c.in_ok-test.ensures.shorter, c.after_one.ensures.shorter),
      (omega (arith, c.requires.room, c.in_ok-test.ensures.shorter, c.after_one.ensures.shorter), subst StartsBranches (sym one) s.branches),
    )

pub branches-block-requires : goal.branches-block-requires
branches-block-requires t c = (omega (arith, c.decreases), (c.requires.room, c.requires.starts.block))

pub branches-after_one-requires : goal.branches-after_one-requires
branches-after_one-requires t c =
    let s = c.requires.starts in
    let told = c.in_ok-then.ensures.right s.block.all s.block.end_at s.block.rest s.block.good s.block.cut in
    let word = c.in-Some.ensures.right in
    let k = else_starts s.block.rest c.in_ok-then.rest.now c.in-Some.rest.now word.0 s.follows told.0.1 word.1 in
    omega (arith, ap length k.3)

pub branches-block-requires-in-Some : goal.branches-block-requires-in-Some
branches-block-requires-in-Some t c =
    let s = c.requires.starts in
    let told = c.in_ok-then.ensures.right s.block.all s.block.end_at s.block.rest s.block.good s.block.cut in
    let word = c.in-Some.ensures.right in
    let k = else_starts s.block.rest c.in_ok-then.rest.now c.in-Some.rest.now word.0 s.follows told.0.1 word.1 in
    let one = c.after_one.ensures.right (at k.0 tok.Begin) k.1 k.3 in (
      omega (arith, c.decreases, c.in_ok-then.ensures.shorter, c.in-Some.ensures.shorter, c.after_one.ensures.shorter),
      (
        omega (arith, c.requires.room, c.in_ok-then.ensures.room, c.in-Some.ensures.shorter, c.after_one.ensures.shorter),
        subst StartsBlock (sym one) k.2,
      ),
    )

pub block-step-requires : goal.block-step-requires
block-step-requires t c =
    let s = c.requires.starts in
    let before = c.steps.invariant.right s.all s.end_at s.rest s.good s.cut in
    let n = not_ended c.args.scope.now c.steps.scope (check_block c.args.scope.now s.all) c.steps.stmts c.steps.rest.now s.end_at s.rest c.steps-test.ensures before in (
      omega (arith, c.decreases, c.steps.invariant.shorter),
      (
        omega (arith, c.requires.room, c.steps.invariant.room),
        record { one = n.step; rest = statements_tokens n.more ++ at s.end_at tok.End ∷ s.rest; good = n.good; follows = n.follows; cut = n.cut },
      ),
    )

pub block-after_one-requires : goal.block-after_one-requires
block-after_one-requires t c =
    let s = c.requires.starts in
    let end = ended c.args.scope.now c.steps.scope (check_block c.args.scope.now s.all) c.steps.stmts c.steps.rest.now s.end_at s.rest c.steps-test.ensures
    (c.steps.invariant.right s.all s.end_at s.rest s.good s.cut) in
    omega (arith, ap length end.1)
