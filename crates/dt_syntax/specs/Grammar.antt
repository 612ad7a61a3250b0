-- The grammar of procedures. A syntax tree has a place for each of its tokens; what it spells is the list of its tokens
-- from left to right, rule for rule as in the grammar that stands beside each function. A text belongs to the grammar
-- where its tokens are what some procedures spell. Read next: FirstPass, for what is reported of a text that does not.
use Rattle.std.specs.Prelude.{◌≡◌, ℕ, suc, ◌<◌, ◌≤◌, ℤ, Bool, true, false, List, [], ◌∷◌, ◌++◌, map}
use Rattle.std.specs.List.{flat_map}
use Rattle.dt_lists.specs.Lists.{AllIn}
use Rattle.dt_syntax.specs.declared.kinds.Kind.{Kind}
use Rattle.dt_syntax.specs.declared.kinds.Kind.TheVariants as kind
use Rattle.dt_syntax.specs.declared.operator.Op.{Op}
use Rattle.dt_syntax.specs.declared.operator.Op.TheVariants as op
use Rattle.dt_syntax.specs.declared.token.Token.{Token}
use Rattle.dt_syntax.specs.declared.token.Token.TheVariants.{Name, Int, Text, Op as OpToken, Proc, Read, Write, Let, Set, Clear, If, Else, Abort, Give, Row}
use Rattle.dt_syntax.specs.declared.token.Token.TheVariants.{IntWord, TextWord, Has, Len, Show, Not, Truth, Open, Close, Begin, End, Comma, Semicolon, Colon}
use Rattle.dt_syntax.specs.declared.token.Token.TheVariants.{Is}
use Rattle.dt_syntax.specs.declared.token.Placed.{Placed}

-- a token at a place
abbrev pub at : ℕ → Token → Placed
at place token = record { place = place; token = token }

-- a name in brackets: '(' NAME ')'
pub record Bracketed : Type 0 where
  pub open_at : ℕ
  pub name_at : ℕ
  pub name : List ℕ
  pub close_at : ℕ

-- the tokens of a name in brackets
abbrev pub bracketed_tokens : Bracketed → List Placed
bracketed_tokens b = at b.open_at Open ∷ at b.name_at (Name b.name) ∷ at b.close_at Close ∷ []

-- what is read of a key's row: 'int' | 'text' | 'has'
pub data Reader : Type 0 where
  reads_int : Reader
  reads_text : Reader
  reads_presence : Reader

-- the token of the word by which a row is read
abbrev pub reader_token : Reader → Token
reader_token reads_int = IntWord
reader_token reads_text = TextWord
reader_token reads_presence = Has

-- what is made of a value: 'len' | 'show'
pub data Maker : Type 0 where
  makes_length : Maker
  makes_text : Maker

-- the token of the word by which a value is made
abbrev pub maker_token : Maker → Token
maker_token makes_length = Len
maker_token makes_text = Show

mutual
  -- an expression: operands with operators of one level between them, or an operand
  pub data Syntax : Type 0 where
    chain : Syntax → Links → Syntax
    minus : ℕ → Syntax → Syntax
    denial : ℕ → Syntax → Syntax
    int : ℕ → ℤ → Syntax
    text : ℕ → List ℕ → Syntax
    truth : ℕ → Bool → Syntax
    name : ℕ → List ℕ → Syntax
    parens : ℕ → Syntax → ℕ → Syntax
    of_key : ℕ → Reader → Bracketed → Syntax
    made : ℕ → Maker → ℕ → Syntax → ℕ → Syntax

  -- what follows the first operand
  pub data Links : Type 0 where
    no_link : Links
    link : ℕ → Op → Syntax → Links → Links

abbrev mutual
  -- expr  = conj {'or' conj}
  -- conj  = comp {'and' comp}
  -- comp  = sum [('==' | '!=' | '<' | '<=' | '>' | '>=') sum]
  -- sum   = term {('+' | '-' | '++') term}
  -- term  = unary {('*' | '/' | '%') unary}
  -- unary = ['-' | 'not'] atom
  -- atom  = INT | TEXT | 'true' | 'false' | NAME | '(' expr ')'
  --       | 'int' '(' NAME ')' | 'text' '(' NAME ')' | 'has' '(' NAME ')'
  --       | 'len' '(' expr ')' | 'show' '(' expr ')'
  pub syntax_tokens : Syntax → List Placed
  syntax_tokens (chain first links) = syntax_tokens first ++ links_tokens links
  syntax_tokens (minus p x) = at p (OpToken op.Sub) ∷ syntax_tokens x
  syntax_tokens (denial p x) = at p Not ∷ syntax_tokens x
  syntax_tokens (int p z) = at p (Int z) ∷ []
  syntax_tokens (text p t) = at p (Text t) ∷ []
  syntax_tokens (truth p b) = at p (Truth b) ∷ []
  syntax_tokens (name p n) = at p (Name n) ∷ []
  syntax_tokens (parens p x q) = at p Open ∷ (syntax_tokens x ++ at q Close ∷ [])
  syntax_tokens (of_key p r b) = at p (reader_token r) ∷ bracketed_tokens b
  syntax_tokens (made p m o x q) = at p (maker_token m) ∷ at o Open ∷ (syntax_tokens x ++ at q Close ∷ [])

  -- operators, each with its operand behind it
  pub links_tokens : Links → List Placed
  links_tokens no_link = []
  links_tokens (link p o x more) = at p (OpToken o) ∷ (syntax_tokens x ++ links_tokens more)

-- the place of the first token of an expression
abbrev pub front_place : Syntax → ℕ
front_place (chain head links) = front_place head
front_place (minus p x) = p
front_place (denial p x) = p
front_place (int p z) = p
front_place (text p t) = p
front_place (truth p b) = p
front_place (name p n) = p
front_place (parens p x q) = p
front_place (of_key p r b) = p
front_place (made p m o x q) = p

-- the level of an operator: 0 in expr, 1 in conj, 2 in comp, 3 in sum, 4 in term
abbrev pub level_of : Op → ℕ
level_of op.Or = 0
level_of op.And = 1
level_of op.Equal = 2
level_of op.Differ = 2
level_of op.Less = 2
level_of op.AtMost = 2
level_of op.More = 2
level_of op.AtLeast = 2
level_of op.Add = 3
level_of op.Sub = 3
level_of op.Join = 3
level_of op.Mul = 4
level_of op.Div = 4
level_of op.Rem = 4

-- whether it is `++`, which joins texts
abbrev pub is_join : Op → Bool
is_join op.Join = true
is_join _ = false

abbrev mutual
  -- an expression of the level: 0 expr, 1 conj, 2 comp, 3 sum, 4 term, 5 unary, 6 atom
  pub IsLevel : ℕ → Syntax → Type 0
  IsLevel n (chain first links) = (n < 5) × IsLevel (suc n) first × AreLinks n links
  IsLevel n (minus p x) = (n ≡ 5) × IsLevel 6 x
  IsLevel n (denial p x) = (n ≡ 5) × IsLevel 6 x
  IsLevel n (int p z) = 5 ≤ n
  IsLevel n (text p t) = 5 ≤ n
  IsLevel n (truth p b) = 5 ≤ n
  IsLevel n (name p b) = 5 ≤ n
  IsLevel n (parens p x q) = (5 ≤ n) × IsLevel 0 x
  IsLevel n (of_key p r b) = 5 ≤ n
  IsLevel n (made p m o x q) = (5 ≤ n) × IsLevel 0 x

  -- operators of the level, each with an operand of the next one; at most one where they compare
  pub AreLinks : ℕ → Links → Type 0
  AreLinks n no_link = Unit {0}
  AreLinks n (link p o x more) = (level_of o ≡ n) × IsLevel (suc n) x × (n ≡ 2 → more ≡ no_link) × AreLinks n more

-- param = NAME ':' ('int' | 'text')
pub record Param : Type 0 where
  pub name_at : ℕ
  pub name : List ℕ
  pub colon_at : ℕ
  pub kind_at : ℕ
  pub kind : Kind

-- the token of a kind: 'int' | 'text'
abbrev pub kind_token : Kind → Token
kind_token kind.Int = IntWord
kind_token kind.Text = TextWord

-- the tokens of a parameter
abbrev pub param_tokens : Param → List Placed
param_tokens p = at p.name_at (Name p.name) ∷ at p.colon_at Colon ∷ at p.kind_at (kind_token p.kind) ∷ []

-- parameters: [param {',' param}]
pub data Params : Type 0 where
  no_param : Params
  params : Param → List (ℕ × Param) → Params

-- the kinds of parameters, in order
abbrev pub param_kinds : Params → List Kind
param_kinds no_param = []
param_kinds (params p more) = p.kind ∷ map (λ m. m.1.kind) more

-- the tokens of parameters, with a `,` before each but the first
abbrev pub params_tokens : Params → List Placed
params_tokens no_param = []
params_tokens (params first more) = param_tokens first ++ flat_map (λ m. at m.0 Comma ∷ param_tokens m.1) more

-- keyitem = TEXT | NAME | 'show' '(' NAME ')'
pub data KeyPart : Type 0 where
  text_part : ℕ → List ℕ → KeyPart
  name_part : ℕ → List ℕ → KeyPart
  show_part : ℕ → Bracketed → KeyPart

-- the tokens of a part of a key expression
abbrev pub part_tokens : KeyPart → List Placed
part_tokens (text_part p t) = at p (Text t) ∷ []
part_tokens (name_part p n) = at p (Name n) ∷ []
part_tokens (show_part p b) = at p Show ∷ bracketed_tokens b

-- keydecl = ('read' | 'write') NAME '=' keyitem {'++' keyitem} ';'
pub record KeySyntax : Type 0 where
  pub word_at : ℕ
  pub write : Bool
  pub name_at : ℕ
  pub name : List ℕ
  pub is_at : ℕ
  pub first : KeyPart
  pub more : List (ℕ × KeyPart)
  pub end_at : ℕ

-- the word of a declaration: 'write' where the key may be written, else 'read'
abbrev pub mode_token : Bool → Token
mode_token true = Write
mode_token false = Read

-- the tokens of a declaration of a key
abbrev pub key_tokens : KeySyntax → List Placed
key_tokens k =
    at k.word_at (mode_token k.write) ∷ at k.name_at (Name k.name) ∷ at k.is_at Is
    ∷ (part_tokens k.first ++ (flat_map (λ m. at m.0 (OpToken op.Join) ∷ part_tokens m.1) k.more ++ at k.end_at Semicolon ∷ []))

-- item = 'row' '(' NAME ')' | expr
pub data Item : Type 0 where
  row_item : ℕ → Bracketed → Item
  value_item : Syntax → Item

-- the tokens of an item of `give`
abbrev pub item_tokens : Item → List Placed
item_tokens (row_item p b) = at p Row ∷ bracketed_tokens b
item_tokens (value_item x) = syntax_tokens x

mutual
  -- a statement
  pub data Statement : Type 0 where
    let_new : ℕ → ℕ → List ℕ → ℕ → Syntax → ℕ → Statement
    set_key : ℕ → ℕ → List ℕ → ℕ → Syntax → ℕ → Statement
    clear_key : ℕ → ℕ → List ℕ → ℕ → Statement
    when : ℕ → Syntax → ℕ → Statements → ℕ → Statement
    choose : ℕ → Syntax → ℕ → Statements → ℕ → ℕ → ℕ → Statements → ℕ → Statement
    abort : ℕ → ℕ → List ℕ → ℕ → Statement
    give : ℕ → Item → List (ℕ × Item) → ℕ → Statement

  -- {stmt}
  pub data Statements : Type 0 where
    nothing : Statements
    first : Statement → Statements → Statements

-- the tokens of items, with a `,` before each but the first
abbrev pub items_tokens : Item → List (ℕ × Item) → List Placed
items_tokens item more = item_tokens item ++ flat_map (λ m. at m.0 Comma ∷ item_tokens m.1) more

abbrev mutual
  -- block = '{' {stmt} '}'
  -- stmt  = 'let' NAME '=' expr ';' | 'set' NAME '=' expr ';' | 'clear' NAME ';'
  --       | 'if' expr block ['else' block] | 'abort' TEXT ';' | 'give' item {',' item} ';'
  pub statement_tokens : Statement → List Placed
  statement_tokens (let_new p q n i x e) = at p Let ∷ at q (Name n) ∷ at i Is ∷ (syntax_tokens x ++ at e Semicolon ∷ [])
  statement_tokens (set_key p q n i x e) = at p Set ∷ at q (Name n) ∷ at i Is ∷ (syntax_tokens x ++ at e Semicolon ∷ [])
  statement_tokens (clear_key p q n e) = at p Clear ∷ at q (Name n) ∷ at e Semicolon ∷ []
  statement_tokens (when p x b ss e) = at p If ∷ (syntax_tokens x ++ at b Begin ∷ (statements_tokens ss ++ at e End ∷ []))
  statement_tokens (choose p x b ss e w c rs f) =
      at p If ∷ (syntax_tokens x ++ at b Begin ∷ (statements_tokens ss ++ at e End ∷ at w Else ∷ at c Begin
      ∷ (statements_tokens rs ++ at f End ∷ [])))
  statement_tokens (abort p q t e) = at p Abort ∷ at q (Text t) ∷ at e Semicolon ∷ []
  statement_tokens (give p i more e) = at p Give ∷ (items_tokens i more ++ at e Semicolon ∷ [])

  -- statements in order
  pub statements_tokens : Statements → List Placed
  statements_tokens nothing = []
  statements_tokens (first s ss) = statement_tokens s ++ statements_tokens ss

-- the item is of the grammar: its expression, if it has one, is an expr
abbrev pub IsItem : Item → Type 0
IsItem (row_item p b) = Unit {0}
IsItem (value_item x) = IsLevel 0 x

abbrev mutual
  -- each expression in the statement is an expr
  pub IsStatement : Statement → Type 0
  IsStatement (let_new p q n i x e) = IsLevel 0 x
  IsStatement (set_key p q n i x e) = IsLevel 0 x
  IsStatement (clear_key p q n e) = Unit {0}
  IsStatement (when p x b ss e) = IsLevel 0 x × AreStatements ss
  IsStatement (choose p x b ss e w c rs f) = IsLevel 0 x × AreStatements ss × AreStatements rs
  IsStatement (abort p q t e) = Unit {0}
  IsStatement (give p i more e) = IsItem i × AllIn (λ m. IsItem m.1) more

  -- each expression in each of the statements is an expr
  pub AreStatements : Statements → Type 0
  AreStatements nothing = Unit {0}
  AreStatements (first s ss) = IsStatement s × AreStatements ss

-- proc = 'proc' NAME '(' [param {',' param}] ')' keydecl {keydecl} block
pub record ProcSyntax : Type 0 where
  pub word_at : ℕ
  pub name_at : ℕ
  pub name : List ℕ
  pub open_at : ℕ
  pub params : Params
  pub close_at : ℕ
  pub key : KeySyntax
  pub more_keys : List KeySyntax
  pub begin_at : ℕ
  pub body : Statements
  pub end_at : ℕ

-- the tokens of a procedure
abbrev pub proc_tokens : ProcSyntax → List Placed
proc_tokens p =
    at p.word_at Proc ∷ at p.name_at (Name p.name) ∷ at p.open_at Open
    ∷ (params_tokens p.params ++ at p.close_at Close ∷ (key_tokens p.key ++ (flat_map key_tokens p.more_keys
    ++ at p.begin_at Begin ∷ (statements_tokens p.body ++ at p.end_at End ∷ []))))

-- the procedure is of the grammar: each expression in its block is an expr
abbrev pub IsProc : ProcSyntax → Type 0
IsProc p = AreStatements p.body

-- the tokens of procedures: procs = {proc}
abbrev pub procs_tokens : List ProcSyntax → List Placed
procs_tokens procs = flat_map proc_tokens procs

-- each of the procedures is of the grammar
abbrev pub AreProcSyntaxes : List ProcSyntax → Type 0
AreProcSyntaxes procs = AllIn IsProc procs

-- these are all the tokens of some procedures
abbrev pub InGrammar : List Placed → Type 0
InGrammar ts = (procs : List ProcSyntax) × AreProcSyntaxes procs × (procs_tokens procs ≡ ts)

-- some procedures begin with these tokens
abbrev pub Begins : List Placed → Type 0
Begins ts = (rest : List Placed) × InGrammar (ts ++ rest)
