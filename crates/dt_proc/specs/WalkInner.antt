-- Scaffolding of the second pass, for its private walks alone. A walk is given tokens of which a part of the grammar
-- comes first, reads that part, and gives what it made with the tokens behind it. One learns here what a walk answers, in
-- terms of the syntax trees that the tokens spell (names that end in `shown` and `told`), and what it needs of the tokens
-- (records that begin with `Starts`). No public statement speaks of it. Read SecondPass for what the whole pass says of a
-- text.
use Rattle.std.specs.Prelude.{◌≡◌, ◌⊎◌, ℕ, ◌+◌, ◌<◌, ◌≤◌, ◌^◌, length, List, [], ◌∷◌, ◌++◌, map, Result, Ok, Err, Option, Some, None}
use Rattle.dt_syntax.specs.declared.token.Token.{Token}
use Rattle.dt_syntax.specs.declared.token.Token.TheVariants as tok
use Rattle.dt_syntax.specs.declared.token.Placed.{Placed}
use Rattle.dt_proc.specs.declared.tree.Expr.{Expr}
use Rattle.dt_proc.specs.declared.tree.Sort.{Sort}
use Rattle.dt_proc.specs.declared.error.ProcError.{ProcError}
use Rattle.dt_proc.specs.declared.error.ProcError.TheVariants as fault
use Rattle.dt_proc.specs.declared.tree.Give.{Give}
use Rattle.dt_proc.specs.declared.tree.Stmt.{Stmt}
use Rattle.dt_proc.specs.Names.{Scope}
use Rattle.dt_proc.specs.Tree.{GiveTree, StmtTree}
use Rattle.dt_lists.specs.Lists.{AllIn}
use Rattle.dt_proc.specs.TreeViews.{expr_tree, give_tree, stmt_tree}
use Rattle.dt_proc.specs.declared.tree.KeyDecl.{KeyDecl}
use Rattle.dt_proc.specs.AfterOk.{after_ok}
use Rattle.dt_proc.specs.SecondPass.{Checked, Typed, check_key, check_keys, with_new_key, check_params, made_by, needs, read_by}
use Rattle.dt_proc.specs.declared.expressions.Prefix.{Prefix}
use Rattle.dt_proc.specs.declared.expressions.Prefix.TheVariants as prefix
use Rattle.dt_proc.specs.declared.expressions.Reading.{Reading}
use Rattle.dt_proc.specs.declared.expressions.Reading.TheVariants as reading
use Rattle.dt_proc.specs.declared.tree.Sort.TheVariants as sort
use Rattle.dt_proc.specs.Tree as tree
use Rattle.std.specs.List.{flat_map}
use Rattle.dt_syntax.specs.Fronts.{FrontStops, NoElse, comma_param, joined_part}
use Rattle.dt_syntax.specs.Grammar.{param_kinds, at, level_of, KeySyntax, Params, ProcSyntax, IsProc, proc_tokens, AreProcSyntaxes, procs_tokens}
use Rattle.dt_syntax.specs.Grammar.{Bracketed, bracketed_tokens, KeyPart, part_tokens, key_tokens, kind_token, Param, param_tokens, params_tokens}
use Rattle.dt_syntax.specs.Grammar.{Syntax, syntax_tokens, IsLevel, Links, links_tokens, AreLinks, Item, IsItem, item_tokens, items_tokens}
use Rattle.dt_syntax.specs.Grammar.{Statement, IsStatement, statement_tokens, Statements, AreStatements, statements_tokens}
use Rattle.dt_syntax.specs.Grammar.{makes_length, makes_text, reads_int, reads_text, reads_presence}
use Rattle.dt_syntax.specs.declared.kinds.Kind.{Kind}
use Rattle.std.specs.Borrow.{Bor}
use Rattle.dt_syntax.specs.declared.operator.Op.{Op}
use Rattle.dt_syntax.specs.Limits.{AllSound, IsSmall}

-- the walk's answer is what is reported, with just the tokens that follow the part that it read; or it is the fault that is
-- reported; or memory ran out
abbrev pub WalkAnswers : {A : Type 0} → Checked A → List Placed → Checked (A × List Placed) → Type 0
WalkAnswers told rest (Ok (a, after)) = (told ≡ Ok a) × (after ≡ rest)
WalkAnswers told rest (Err e) = (e ≡ fault.NoMemory) ⊎ (told ≡ Err e)

-- what a walk over an expression gave, as contracts see it: the tree with its sort, and the tokens that are left; or its
-- fault
abbrev pub expr_shown : Result (Expr × Sort × Bor (List Placed)) ProcError → Checked (Typed × List Placed)
expr_shown (Ok r) = Ok ((expr_tree r.0, r.1), r.2.now)
expr_shown (Err e) = Err e

-- the same of a walk whose thing contracts see as it is: the number of a key in brackets, a part of a key expression, the
-- statements of a block, a procedure
abbrev pub given_shown : {A : Type 0} → Result (A × Bor (List Placed)) ProcError → Checked (A × List Placed)
given_shown (Ok r) = Ok (r.0, r.1.now)
given_shown (Err e) = Err e

-- an expression that was made of others, as contracts see it: its tree and its sort; or the fault
abbrev pub typed_shown : Result (Expr × Sort) ProcError → Checked Typed
typed_shown (Ok r) = Ok (expr_tree r.0, r.1)
typed_shown (Err e) = Err e

-- what is reported of an operand with this word or sign before it (`len`, `show`, `-` or `not`): `len` needs a text, `not` a
-- truth, the others a number
abbrev pub prefix_told : Prefix → ℕ → Typed → Checked Typed
prefix_told prefix.Len place a = made_by makes_length place a
prefix_told prefix.Show place a = made_by makes_text place a
prefix_told prefix.Minus place a = needs place sort.Int a (tree.negative a.0, sort.Int)
prefix_told prefix.Not place a = needs place sort.Bool a (tree.opposite a.0, sort.Bool)

-- what is reported of the row of a key, of which a number, a text or whether it is there is read
abbrev pub read_told : Reading → ℕ → Typed
read_told reading.Int key = read_by reads_int key
read_told reading.Text key = read_by reads_text key
read_told reading.Presence key = read_by reads_presence key

-- an operator that was found, or none, as contracts see it: its place, itself, and the tokens behind it
abbrev pub operator_shown : Option (ℕ × Op × Bor (List Placed)) → Option (ℕ × Op × List Placed)
operator_shown None = None
operator_shown (Some r) = Some (r.0, r.1, r.2.now)

-- the operator of the level that comes first is found, with its place and the tokens behind it; and none where no
-- operator of the level comes first
abbrev pub FindsOperator : ℕ → List Placed → Option (ℕ × Op × List Placed) → Type 0
FindsOperator n ts None = (p : ℕ) (o : Op) (rest : List Placed) → at p (tok.Op o) ∷ rest ≡ ts → ¬ (level_of o ≡ n)
FindsOperator n ts (Some (p, o, rest)) = (at p (tok.Op o) ∷ rest ≡ ts) × (level_of o ≡ n)

-- what a walk over an item of `give` gave, as contracts see it: its tree, and the tokens that are left; or its fault
abbrev pub gift_shown : Result (Give × Bor (List Placed)) ProcError → Checked (GiveTree × List Placed)
gift_shown (Ok r) = Ok (give_tree r.0, r.1.now)
gift_shown (Err e) = Err e

-- the same of a walk over several items
abbrev pub gifts_shown : Result (List Give × Bor (List Placed)) ProcError → Checked (List GiveTree × List Placed)
gifts_shown (Ok r) = Ok (map give_tree r.0, r.1.now)
gifts_shown (Err e) = Err e

-- the same of a walk over a statement, with what is visible after it
abbrev pub step_shown : Scope → Result (Stmt × Bor (List Placed)) ProcError → Checked ((Scope × StmtTree) × List Placed)
step_shown scope (Ok r) = Ok ((scope, stmt_tree r.0), r.1.now)
step_shown scope (Err e) = Err e

-- the tokens that follow this one, where it comes first; and none where it does not
abbrev pub FollowsToken : Token → List Placed → Option (List Placed) → Type 0
FollowsToken t ts None = (p : ℕ) (rest : List Placed) → ¬ (at p t ∷ rest ≡ ts)
FollowsToken t ts (Some rest) = (p : ℕ) × (at p t ∷ rest ≡ ts)

-- the tokens that are left, or none, as contracts see them
abbrev pub left_shown : Option (Bor (List Placed)) → Option (List Placed)
left_shown None = None
left_shown (Some r) = Some r.now

-- the tokens that a walk left, with what was made on the way; or its fault
abbrev pub left_with : {A : Type 0} → A → Result (Bor (List Placed)) ProcError → Checked (A × List Placed)
left_with a (Ok r) = Ok (a, r.now)
left_with a (Err e) = Err e

-- the tokens that a walk left, with two things that were made on the way; or its fault
abbrev pub left_with_both : {A B : Type 0} → A → B → Result (Bor (List Placed)) ProcError → Checked ((A × B) × List Placed)
left_with_both a b (Ok r) = Ok ((a, b), r.now)
left_with_both a b (Err e) = Err e

-- a key after others, with what is visible after it
abbrev pub key_told : Scope → List KeyDecl → KeySyntax → Checked (Scope × List KeyDecl)
key_told scope keys k = after_ok (check_key scope k) (λ d. Ok (with_new_key scope k.name k.write, keys ++ d ∷ []))

-- keys after others, with what is visible after them
abbrev pub keys_told : Scope → List KeyDecl → List KeySyntax → Checked (Scope × List KeyDecl)
keys_told scope keys ks = after_ok (check_keys scope ks) (λ r. Ok (r.1, keys ++ r.0))

-- parameters, with what is visible after them
abbrev pub params_told : Params → Checked (Scope × List Kind)
params_told ps = after_ok (check_params ps) (λ s. Ok (s, param_kinds ps))

-- what a walk over parameters gave, as contracts see it: what is visible and the kinds, and the tokens that are left; or
-- its fault
abbrev pub params_shown : Result (Scope × List Kind × Bor (List Placed)) ProcError → Checked ((Scope × List Kind) × List Placed)
params_shown (Ok r) = Ok ((r.0, r.1), r.2.now)
params_shown (Err e) = Err e

-- From here on: what a walk needs of the tokens. The part of the grammar that it reads comes first (`cut` says of which
-- tokens it is made), and what stands behind it may follow it.

-- a name comes first
pub record StartsName (ts : List Placed) : Type 0 where
  pub place : ℕ
  pub name : List ℕ
  pub rest : List Placed
  pub cut : at place (tok.Name name) ∷ rest ≡ ts

-- the word of a kind comes first: `int` or `text`
pub record StartsKind (ts : List Placed) : Type 0 where
  pub place : ℕ
  pub kind : Kind
  pub rest : List Placed
  pub cut : at place (kind_token kind) ∷ rest ≡ ts

-- a name in brackets comes first
pub record StartsBrackets (ts : List Placed) : Type 0 where
  pub one : Bracketed
  pub rest : List Placed
  pub cut : bracketed_tokens one ++ rest ≡ ts

-- a part of a key expression comes first
pub record StartsPart (ts : List Placed) : Type 0 where
  pub one : KeyPart
  pub rest : List Placed
  pub cut : part_tokens one ++ rest ≡ ts

-- more parts come first, each after a `++`, up to the `;`
pub record StartsMoreParts (ts : List Placed) : Type 0 where
  pub more : List (ℕ × KeyPart)
  pub end_at : ℕ
  pub rest : List Placed
  pub cut : flat_map joined_part more ++ at end_at tok.Semicolon ∷ rest ≡ ts

-- a declaration of a key comes first, of which the word `read` or `write` was read already
pub record StartsKey (ts : List Placed) : Type 0 where
  pub one : KeySyntax
  pub rest : List Placed
  pub cut : at one.name_at (tok.Name one.name) ∷ at one.is_at tok.Is
      ∷ (part_tokens one.first ++ (flat_map joined_part one.more ++ at one.end_at tok.Semicolon ∷ rest)) ≡ ts

-- declarations of keys come first, up to the `{`; there may be none
pub record StartsMoreKeys (ts : List Placed) : Type 0 where
  pub more : List KeySyntax
  pub begin_at : ℕ
  pub rest : List Placed
  pub cut : flat_map key_tokens more ++ at begin_at tok.Begin ∷ rest ≡ ts

-- a parameter comes first: its name, a `:` and its kind
pub record StartsParam (ts : List Placed) : Type 0 where
  pub one : Param
  pub rest : List Placed
  pub cut : param_tokens one ++ rest ≡ ts

-- more parameters come first, each after a `,`, up to the `)`
pub record StartsMoreParams (ts : List Placed) : Type 0 where
  pub more : List (ℕ × Param)
  pub close_at : ℕ
  pub rest : List Placed
  pub cut : flat_map comma_param more ++ at close_at tok.Close ∷ rest ≡ ts

-- parameters come first, up to the `)`; there may be none
pub record StartsParams (ts : List Placed) : Type 0 where
  pub all : Params
  pub close_at : ℕ
  pub rest : List Placed
  pub cut : params_tokens all ++ at close_at tok.Close ∷ rest ≡ ts

-- an expression of the level comes first, and does not go on with the token behind it
pub record StartsExpr (level : ℕ) (ts : List Placed) : Type 0 where
  pub one : Syntax
  pub rest : List Placed
  pub good : IsLevel level one
  pub stops : FrontStops level rest
  pub cut : syntax_tokens one ++ rest ≡ ts

-- operators of the level come first, each with an operand; there may be none
pub record StartsLinks (level : ℕ) (ts : List Placed) : Type 0 where
  pub all : Links
  pub rest : List Placed
  pub good : AreLinks level all
  pub stops : FrontStops level rest
  pub cut : links_tokens all ++ rest ≡ ts

-- an expression in brackets comes first, of which the `(` was read already
pub record StartsInside (ts : List Placed) : Type 0 where
  pub one : Syntax
  pub close_at : ℕ
  pub rest : List Placed
  pub good : IsLevel 0 one
  pub cut : syntax_tokens one ++ at close_at tok.Close ∷ rest ≡ ts

-- an expression in brackets comes first
pub record StartsOpen (ts : List Placed) : Type 0 where
  pub open_at : ℕ
  pub after : List Placed
  pub inside : StartsInside after
  pub cut : at open_at tok.Open ∷ after ≡ ts

-- an item of `give` comes first, and does not go on with the token behind it
pub record StartsItem (ts : List Placed) : Type 0 where
  pub one : Item
  pub rest : List Placed
  pub good : IsItem one
  pub stops : FrontStops 0 rest
  pub cut : item_tokens one ++ rest ≡ ts

-- items of `give` come first, at least one, up to the `;`
pub record StartsItems (ts : List Placed) : Type 0 where
  pub one : Item
  pub more : List (ℕ × Item)
  pub end_at : ℕ
  pub rest : List Placed
  pub good : IsItem one
  pub others : AllIn (λ m. IsItem m.1) more
  pub cut : items_tokens one more ++ at end_at tok.Semicolon ∷ rest ≡ ts

-- NAME '=' expr ';' comes first: what follows the word `let` or `set`
pub record StartsAssigned (ts : List Placed) : Type 0 where
  pub name_at : ℕ
  pub name : List ℕ
  pub is_at : ℕ
  pub value : Syntax
  pub end_at : ℕ
  pub rest : List Placed
  pub good : IsLevel 0 value
  pub cut : at name_at (tok.Name name) ∷ at is_at tok.Is ∷ (syntax_tokens value ++ at end_at tok.Semicolon ∷ rest) ≡ ts

-- NAME ';' comes first: what follows the word `clear`
pub record StartsNamed (ts : List Placed) : Type 0 where
  pub name_at : ℕ
  pub name : List ℕ
  pub end_at : ℕ
  pub rest : List Placed
  pub cut : at name_at (tok.Name name) ∷ at end_at tok.Semicolon ∷ rest ≡ ts

-- TEXT ';' comes first: what follows the word `abort`
pub record StartsQuoted (ts : List Placed) : Type 0 where
  pub text_at : ℕ
  pub text : List ℕ
  pub end_at : ℕ
  pub rest : List Placed
  pub cut : at text_at (tok.Text text) ∷ at end_at tok.Semicolon ∷ rest ≡ ts

-- the statements of a block come first, up to the `}`
pub record StartsBlock (ts : List Placed) : Type 0 where
  pub all : Statements
  pub end_at : ℕ
  pub rest : List Placed
  pub good : AreStatements all
  pub cut : statements_tokens all ++ at end_at tok.End ∷ rest ≡ ts

-- a statement comes first, and no `else` is behind it, so that it goes no further
pub record StartsStatement (ts : List Placed) : Type 0 where
  pub one : Statement
  pub rest : List Placed
  pub good : IsStatement one
  pub follows : NoElse rest
  pub cut : statement_tokens one ++ rest ≡ ts

-- 'else' and a block come first
pub record StartsElse (ts : List Placed) : Type 0 where
  pub word_at : ℕ
  pub begin_at : ℕ
  pub after : List Placed
  pub block : StartsBlock after
  pub cut : at word_at tok.Else ∷ at begin_at tok.Begin ∷ after ≡ ts

-- the first block of an `if` comes first, of which the `{` was read already, and then the second one or no `else`
pub record StartsBranches (ts : List Placed) : Type 0 where
  pub block : StartsBlock ts
  pub follows : NoElse block.rest ⊎ StartsElse block.rest

-- an `if` comes first, of which the word was read already
pub record StartsIf (ts : List Placed) : Type 0 where
  pub test : Syntax
  pub begin_at : ℕ
  pub after : List Placed
  pub good : IsLevel 0 test
  pub branches : StartsBranches after
  pub cut : syntax_tokens test ++ at begin_at tok.Begin ∷ after ≡ ts

-- a procedure of the grammar comes first, of few parameters and keys, each of whose tokens has a value in range
pub record StartsProc (ts : List Placed) : Type 0 where
  pub one : ProcSyntax
  pub rest : List Placed
  pub good : IsProc one
  pub small : IsSmall one
  pub sound : AllSound (proc_tokens one)
  pub cut : proc_tokens one ++ rest ≡ ts

-- these are all the tokens of at most 64 procedures of the grammar, each of few parameters and keys
pub record AreFewProcs (ts : List Placed) : Type 0 where
  pub all : List ProcSyntax
  pub good : AreProcSyntaxes all
  pub small : AllIn IsSmall all
  pub few : length all ≤ 64
  pub sound : AllSound ts
  pub cut : procs_tokens all ≡ ts

-- the answer of a pass is what is reported; or memory ran out
abbrev pub PassGives : {A : Type 0} → Checked A → Checked A → Type 0
PassGives told (Ok a) = told ≡ Ok a
PassGives told (Err e) = (e ≡ fault.NoMemory) ⊎ (told ≡ Err e)

-- what is visible and the tokens that are left are few enough together: each name that a token makes visible has its number in 32 bits
abbrev pub HasRoom : Scope → List Placed → Type 0
HasRoom scope tokens = length scope.variables + length scope.keys + length tokens < 2 ^ 32

-- what is visible now and the tokens that are left now are no more together than before, so the room is kept
abbrev pub KeepsRoom : Scope → List Placed → Scope → List Placed → Type 0
KeepsRoom old before new after =
    length new.variables + length new.keys + length after ≤ length old.variables + length old.keys + length before
