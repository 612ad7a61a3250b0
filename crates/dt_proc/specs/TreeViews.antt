-- What the trees in memory stand for: each expression, item and block of the code as a tree of Tree, without boxes and
-- lists. Contracts speak of these trees alone. Read next: Tree.
use Rattle.std.specs.Prelude.{ℕ, ◌+◌, List, [], ◌∷◌, map}
use Rattle.dt_proc.specs.declared.tree.Expr.{Expr, Int, Text, Bool, Var, IntOf, TextOf, Has, Len', Show', Neg', Not', Binary'}
use Rattle.dt_proc.specs.declared.tree.Give.{Give}
use Rattle.dt_proc.specs.declared.tree.Give.TheVariants.{Row, Value}
use Rattle.dt_proc.specs.declared.tree.Stmt.{Stmt}
use Rattle.dt_proc.specs.declared.tree.Stmt.TheVariants.{Let, Set, Clear, If, Abort, Give as Giving}
use Rattle.dt_proc.specs.Tree.{ExprTree, number, text, truth, variable, number_of, text_of, has_value, length_of, shown, negative, opposite, binary, GiveTree}
use Rattle.dt_proc.specs.Tree.{row, value, StmtTree, let_new, set_row, clear_row, choose, abort_with, give_all, BlockTree, done, then}

-- the tree of an expression
abbrev pub expr_tree : Expr → ExprTree
expr_tree (Int z) = number z
expr_tree (Text t) = text t
expr_tree (Bool b) = truth b
expr_tree (Var n) = variable n
expr_tree (IntOf k) = number_of k
expr_tree (TextOf k) = text_of k
expr_tree (Has k) = has_value k
expr_tree (Len' p e) = length_of (expr_tree e)
expr_tree (Show' p e) = shown (expr_tree e)
expr_tree (Neg' p e) = negative (expr_tree e)
expr_tree (Not' p e) = opposite (expr_tree e)
expr_tree (Binary' o p e q f) = binary o (expr_tree e) (expr_tree f)

-- the tree of an item of `give`
abbrev pub give_tree : Give → GiveTree
give_tree (Row k) = row k
give_tree (Value e) = value (expr_tree e)

-- the tree of a statement; the blocks of an `if` are seen as trees already
abbrev pub stmt_tree : Stmt → StmtTree
stmt_tree (Let e) = let_new (expr_tree e)
stmt_tree (Set k e) = set_row k (expr_tree e)
stmt_tree (Clear k) = clear_row k
stmt_tree (If e a b) = choose (expr_tree e) a b
stmt_tree (Abort t) = abort_with t
stmt_tree (Giving gs) = give_all (map give_tree gs)

-- the tree of statements in order
abbrev pub block_tree : List Stmt → BlockTree
block_tree [] = done
block_tree (s ∷ ss) = then (stmt_tree s) (block_tree ss)

-- how many statements there are, those within statements included
abbrev mutual
  pub step_size : StmtTree → ℕ
  step_size (choose f a b) = 1 + block_size a + block_size b
  step_size _ = 1

  pub block_size : BlockTree → ℕ
  block_size done = 0
  block_size (then s b) = step_size s + block_size b
