-- Statements as lists and as blocks.
use Rattle.std.proofs.Common.{◌≡◌, List, [], ◌∷◌, ◌++◌, refl, ap}
use Rattle.dt_proc.specs.declared.tree.Stmt.{Stmt}
use Rattle.dt_proc.specs.Tree.{done, then, joined}
use Rattle.dt_proc.specs.TreeViews.{stmt_tree, block_tree}

pub with_last : (ss : List Stmt) (s : Stmt) → block_tree (ss ++ s ∷ []) ≡ joined (block_tree ss) (then (stmt_tree s) done)
with_last [] s = refl
with_last (t ∷ ss) s = ap (then (stmt_tree t)) (with_last ss s)
