-- What procedures are: trees of statements and expressions, without a word on where they lie in memory. Names are gone: a
-- variable, a key and a procedure are numbers. What a tree means when it runs is stated in Cases of dt_eval. Read
-- next: Sound, for what holds of every tree; then SecondPass, for how a text gives one.
use Rattle.std.specs.Prelude.{ℕ, ℤ, Bool, List}
use Rattle.dt_syntax.specs.declared.kinds.Kind.{Kind}
use Rattle.dt_proc.specs.declared.tree.KeyDecl.{KeyDecl}
use Rattle.dt_syntax.specs.declared.operator.Op.{Op}

-- an expression. A variable, or the key of a row, is known by its number
pub data ExprTree : Type 0 where
  number : ℤ → ExprTree
  text : List ℕ → ExprTree
  truth : Bool → ExprTree
  variable : ℕ → ExprTree
  number_of : ℕ → ExprTree
  text_of : ℕ → ExprTree
  has_value : ℕ → ExprTree
  length_of : ExprTree → ExprTree
  shown : ExprTree → ExprTree
  negative : ExprTree → ExprTree
  opposite : ExprTree → ExprTree
  binary : Op → ExprTree → ExprTree → ExprTree

-- what `give` adds: the value of a key's row, or of an expression
pub data GiveTree : Type 0 where
  row : ℕ → GiveTree
  value : ExprTree → GiveTree

mutual
  -- a statement
  pub data StmtTree : Type 0 where
    let_new : ExprTree → StmtTree
    set_row : ℕ → ExprTree → StmtTree
    clear_row : ℕ → StmtTree
    choose : ExprTree → BlockTree → BlockTree → StmtTree
    abort_with : List ℕ → StmtTree
    give_all : List GiveTree → StmtTree

  -- statements, in order
  pub data BlockTree : Type 0 where
    done : BlockTree
    then : StmtTree → BlockTree → BlockTree

-- a procedure: its name, the kinds of its parameters, the declarations of its keys, and its statements
pub record ProcTree : Type 0 where
  pub name : List ℕ
  pub params : List Kind
  pub keys : List KeyDecl
  pub body : BlockTree

-- the one statements and then the other
abbrev pub joined : BlockTree → BlockTree → BlockTree
joined done b = b
joined (then s a) b = then s (joined a b)
