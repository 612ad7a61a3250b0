-- Scaffolding, for proofs alone: statements within a statement are smaller than it, which lets a walk down the statements
-- end. Skip it; read Tree for what statements are.
use Rattle.std.specs.Prelude.{◌≤◌, List, [], ◌∷◌}
use Rattle.std.proofs.Common.{arith}
use denote.Param.Weighed.{most}
use Rattle.dt_proc.specs.declared.tree.Stmts.TheDeep.{deep-Stmt}
use Rattle.dt_proc.specs.declared.tree.Stmt.{Stmt}
use Rattle.dt_proc.specs.declared.tree.Stmt.TheVariants.{Let, Set, Clear, If, Abort, Give}
use Rattle.dt_proc.specs.TreeViews.{stmt_tree, block_tree, step_size, block_size}

-- the statements within one are no deeper than it has statements
pub deep_step : (s : Stmt) → deep-Stmt s ≤ step_size (stmt_tree s)
deep_step (Let e) = omega arith
deep_step (Set k e) = omega arith
deep_step (Clear k) = omega arith
deep_step (If e a b) = omega arith
deep_step (Abort t) = omega arith
deep_step (Give gs) = omega arith

-- statements in a row are no deeper than there are statements in them
pub deep_block : (ss : List Stmt) → most deep-Stmt ss ≤ block_size (block_tree ss)
deep_block [] = omega arith
deep_block (s ∷ ss) = omega (arith, deep_step s, deep_block ss)
