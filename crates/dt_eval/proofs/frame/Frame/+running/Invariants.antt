use Rattle.std.proofs.Common.{◌≡◌, ◌+◌, ◌*◌, ◌≤◌, drop}
use Rattle.dt_proc.specs.TreeViews.{block_tree, stmt_tree, block_size, step_size}
use Rattle.dt_eval.specs.FrameInner.{IsSoundBlock, seen}
use Rattle.dt_eval.specs.Statements.{after_block}
use Rattle.dt_eval.proofs.frame.Frame.+running.Given as goal

abbrev pub decreases-block : goal.decreases-block
decreases-block l = 3 * block_size (block_tree l.stmts.now) + 2

abbrev pub decreases-step : goal.decreases-step
decreases-step l = 3 * step_size (stmt_tree l.stmt.now) + 1

abbrev pub decreases-choose : goal.decreases-choose
decreases-choose l = 3 * (block_size l.then.now + block_size l.otherwise.now) + 3

abbrev pub invariant-block-loop-stmt : goal.invariant-block-loop-stmt
invariant-block-loop-stmt l = record {
  names : l.self.rows.0 ≡ l.fn.self.rows.0;
  sound : IsSoundBlock l.self (block_tree (drop l.stmt-index l.stmts));
  told : after_block l.fn.self.rows.0 (block_tree l.fn.stmts) (seen l.fn.self) ≡ after_block l.self.rows.0 (block_tree (drop l.stmt-index l.stmts)) (seen l.self);
  size : block_size (block_tree (drop l.stmt-index l.stmts)) ≤ block_size (block_tree l.fn.stmts);
}
