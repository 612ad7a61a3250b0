use Rattle.std.proofs.Common.{◌≡◌, ◌+◌, ◌∙◌, Ok, true, false, drop, take, sym, ap, subst, arith}
use Rattle.dt_proc.specs.TreeViews.{block_tree, stmt_tree, expr_tree, block_size}
use Rattle.dt_proc.specs.Tree.{then}
use Rattle.dt_proc.specs.AfterOk.{after_ok}
use Rattle.dt_eval.specs.FrameInner.{IsSoundBlock, seen}
use Rattle.dt_eval.specs.Statements.{after_block}
use Rattle.dt_eval.specs.declared.state.Datum.TheVariants.{Bool as Truth}
use Rattle.dt_eval.proofs.FrameLaws.{block_tail, choose_by, drop_step}
use Rattle.dt_eval.proofs.frame.Frame.+running.Goals as goal
use Rattle.dt_eval.proofs.frame.Frame.+running.Goals.{choose-then-branch+in_ok-block, choose-else-branch+in_ok-block-2}

pub block-loop-stmt-preserved : goal.block-loop-stmt-preserved
block-loop-stmt-preserved t c =
    let xs = c.args.stmts.now in
    let i = c.loop-stmt.stmt-index in
    let old = c.loop-stmt.self in
    let new = c.step.new.self in
    let rest = block_tree (drop (i + 1) xs) in
    let cut : block_tree (drop i xs) ≡ then (stmt_tree c.stmt-item.result) rest = drop_step xs i c.stmt-item.result c.loop-stmt-test.true c.stmt-item.is in
    let answer = c.in_ok-step.ensures.answer in
    let names = c.in_ok-step.ensures.names in
    record {
      names = names ∙ c.loop-stmt.invariant.names;
      sound = block_tail old new (stmt_tree c.stmt-item.result) rest (subst (IsSoundBlock old) cut c.loop-stmt.invariant.sound) answer names;
      told =
          c.loop-stmt.invariant.told ∙ ap (λ b. after_block old.rows.0 b (seen old)) cut ∙ ap (λ r. after_ok r (after_block old.rows.0 rest)) answer
          ∙ ap (λ n. after_block n rest (seen new)) (sym names);
      size = let sizes = ap block_size cut in omega (arith, sizes, c.loop-stmt.invariant.size);
    }

pub choose-returns-clause-answer : goal.choose-returns-clause-answer
choose-returns-clause-answer t c =
    let self = c.args.self.now in
    elim c.if-branch.branch [
      | choose-then-branch+in_ok-block w ↦
          choose_by self.rows.0 (expr_tree c.args.test.now) c.args.then.now c.args.otherwise.now (seen self) (seen c.if-branch.self) true (Truth c.in_ok-holds.field-0) c.truncate.new.self
          c.in_ok-holds.ensures (ap Truth w.if-branch.true)
          (ap (λ b. after_block self.rows.0 b (seen self)) (sym w.as_slice.ensures) ∙ w.in_ok-block.ensures.answer ∙ ap (λ g. Ok (seen g)) (sym w.self-is))
          (c.truncate.ensures ∙ ap (λ n. take n c.if-branch.self.variables) c.len-visible.ensures)
      | choose-else-branch+in_ok-block-2 w ↦
          choose_by self.rows.0 (expr_tree c.args.test.now) c.args.then.now c.args.otherwise.now (seen self) (seen c.if-branch.self) false (Truth c.in_ok-holds.field-0) c.truncate.new.self
          c.in_ok-holds.ensures (ap Truth w.if-branch.false)
          (ap (λ b. after_block self.rows.0 b (seen self)) (sym w.as_slice-else-branch.ensures) ∙ w.in_ok-block-2.ensures.answer ∙ ap (λ g. Ok (seen g)) (sym w.self-is))
          (c.truncate.ensures ∙ ap (λ n. take n c.if-branch.self.variables) c.len-visible.ensures)
    ]
