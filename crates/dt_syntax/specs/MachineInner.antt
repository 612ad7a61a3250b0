-- Scaffolding of the first pass: a machine that reads tokens from the front, with a stack of what is expected, the next
-- first. A symbol of the stack stands for a part of the grammar that has to come, or that may (a tail). A token is put to
-- the first symbol: it is taken, and what it begins is expected in the symbol's place; or the symbol may be left out, and
-- the token is put to the next one; or it is refused. That the machine goes on exactly where some procedures begin with
-- the tokens so far is proved, so no public statement speaks of it. Read Grammar for the grammar, and FirstPass for what
-- is reported for a text.
use Rattle.std.specs.Prelude.{ℕ, zero, suc, Bool, true, false, if◌then◌else◌, ◌==◌, nat_le, ◌≡◌, List, [], ◌∷◌, ◌++◌, Option, Some, None}
use Rattle.dt_syntax.specs.declared.operator.Op.{Op}
use Rattle.dt_syntax.specs.declared.operator.Op.TheVariants as op
use Rattle.dt_syntax.specs.declared.token.Token.{Token}
use Rattle.dt_syntax.specs.declared.token.Token.TheVariants.{Name, Int, Text, Op as OpToken, Proc, Read, Write, Let, Set, Clear, If, Else, Abort, Give, Row}
use Rattle.dt_syntax.specs.declared.token.Token.TheVariants.{IntWord, TextWord, Has, Len, Show, Not, Truth, Open, Close, Begin, End, Comma, Semicolon, Colon}
use Rattle.dt_syntax.specs.declared.token.Token.TheVariants.{Is}
use Rattle.dt_syntax.specs.declared.token.Placed.{Placed}
use Rattle.dt_syntax.specs.declared.machine.Sym.{Sym}
use Rattle.dt_syntax.specs.declared.machine.Sym.TheVariants as sym
use Rattle.dt_syntax.specs.declared.machine.Step.{Step}
use Rattle.dt_syntax.specs.declared.machine.Step.TheVariants.{Takes, Passes, Refuses}
use Rattle.dt_syntax.specs.Grammar.{level_of}

-- what a token does to the symbol that is expected next: it is taken, and these symbols are expected in its place; or
-- what the symbol stands for ends before the token, which is put to the symbol behind it; or the token is refused
pub data Turn : Type 0 where
  takes : List Sym → Turn
  passes : Turn
  refuses : Turn

-- what may follow an operand where an expression of the level is expected: more operands, each after an operator, of the
-- tightest level first
abbrev pub tails : ℕ → List Sym
tails zero = sym.Tail 4 ∷ sym.Tail 3 ∷ sym.Tail 2 ∷ sym.Tail 1 ∷ sym.Tail 0 ∷ []
tails (suc zero) = sym.Tail 4 ∷ sym.Tail 3 ∷ sym.Tail 2 ∷ sym.Tail 1 ∷ []
tails (suc (suc zero)) = sym.Tail 4 ∷ sym.Tail 3 ∷ sym.Tail 2 ∷ []
tails (suc (suc (suc zero))) = sym.Tail 4 ∷ sym.Tail 3 ∷ []
tails (suc (suc (suc (suc zero)))) = sym.Tail 4 ∷ []
tails _ = []

-- what is expected after an operator: its right operand, and more operands of its level, of which a comparison has none
abbrev pub after_operator : Op → List Sym
after_operator op.Or = sym.Level 1 ∷ sym.Tail 0 ∷ []
after_operator op.And = sym.Level 2 ∷ sym.Tail 1 ∷ []
after_operator op.Equal = sym.Level 3 ∷ []
after_operator op.Differ = sym.Level 3 ∷ []
after_operator op.Less = sym.Level 3 ∷ []
after_operator op.AtMost = sym.Level 3 ∷ []
after_operator op.More = sym.Level 3 ∷ []
after_operator op.AtLeast = sym.Level 3 ∷ []
after_operator op.Add = sym.Level 4 ∷ sym.Tail 3 ∷ []
after_operator op.Sub = sym.Level 4 ∷ sym.Tail 3 ∷ []
after_operator op.Join = sym.Level 4 ∷ sym.Tail 3 ∷ []
after_operator op.Mul = sym.Level 5 ∷ sym.Tail 4 ∷ []
after_operator op.Div = sym.Level 5 ∷ sym.Tail 4 ∷ []
after_operator op.Rem = sym.Level 5 ∷ sym.Tail 4 ∷ []

-- what `-` and `not` do where an expression of the level is expected: an atom has to follow; where an atom is expected
-- they cannot stand
abbrev pub prefix : ℕ → Turn
prefix n = if nat_le n 5 then takes (sym.Level 6 ∷ tails n) else refuses

-- what a token does where an expression of the level is expected
abbrev pub operand : ℕ → Token → Turn
operand n (Int z) = takes (tails n)
operand n (Text t) = takes (tails n)
operand n (Truth b) = takes (tails n)
operand n (Name x) = takes (tails n)
operand n Open = takes (sym.Level 0 ∷ sym.Close ∷ tails n)
operand n IntWord = takes (sym.Open ∷ sym.Name ∷ sym.Close ∷ tails n)
operand n TextWord = takes (sym.Open ∷ sym.Name ∷ sym.Close ∷ tails n)
operand n Has = takes (sym.Open ∷ sym.Name ∷ sym.Close ∷ tails n)
operand n Len = takes (sym.Open ∷ sym.Level 0 ∷ sym.Close ∷ tails n)
operand n Show = takes (sym.Open ∷ sym.Level 0 ∷ sym.Close ∷ tails n)
operand n Not = prefix n
operand n (OpToken op.Sub) = prefix n
operand n _ = refuses

-- what a token does where an operand has ended and an operator of the level may follow: one of another level belongs
-- further out
abbrev pub operator : ℕ → Token → Turn
operator n (OpToken o) = if level_of o == n then takes (after_operator o) else passes
operator n _ = passes

-- what a token does where a statement or the `}` of the block is expected
abbrev pub statement : Token → Turn
statement Let = takes (sym.Name ∷ sym.Is ∷ sym.Level 0 ∷ sym.Semicolon ∷ sym.Statements ∷ [])
statement Set = takes (sym.Name ∷ sym.Is ∷ sym.Level 0 ∷ sym.Semicolon ∷ sym.Statements ∷ [])
statement Clear = takes (sym.Name ∷ sym.Semicolon ∷ sym.Statements ∷ [])
statement If = takes (sym.Level 0 ∷ sym.Begin ∷ sym.Statements ∷ sym.AfterIf ∷ [])
statement Abort = takes (sym.Text ∷ sym.Semicolon ∷ sym.Statements ∷ [])
statement Give = takes (sym.Item ∷ sym.MoreItems ∷ sym.Statements ∷ [])
statement End = takes []
statement _ = refuses

-- what a token does to the symbol that is expected next; the cases are the rules of the grammar
abbrev pub turn : Sym → Token → Turn
turn sym.Procs Proc = takes (sym.Name ∷ sym.Open ∷ sym.Params ∷ sym.Keys ∷ sym.Procs ∷ [])
turn sym.Procs _ = refuses
turn sym.Name (Name x) = takes []
turn sym.Name _ = refuses
turn sym.Text (Text t) = takes []
turn sym.Text _ = refuses
turn sym.Open Open = takes []
turn sym.Open _ = refuses
turn sym.Close Close = takes []
turn sym.Close _ = refuses
turn sym.Begin Begin = takes []
turn sym.Begin _ = refuses
turn sym.Colon Colon = takes []
turn sym.Colon _ = refuses
turn sym.Is Is = takes []
turn sym.Is _ = refuses
turn sym.Semicolon Semicolon = takes []
turn sym.Semicolon _ = refuses
turn sym.Params (Name x) = takes (sym.Colon ∷ sym.Kind ∷ sym.MoreParams ∷ [])
turn sym.Params Close = takes []
turn sym.Params _ = refuses
turn sym.MoreParams Comma = takes (sym.Name ∷ sym.Colon ∷ sym.Kind ∷ sym.MoreParams ∷ [])
turn sym.MoreParams Close = takes []
turn sym.MoreParams _ = refuses
turn sym.Kind IntWord = takes []
turn sym.Kind TextWord = takes []
turn sym.Kind _ = refuses
turn sym.Keys Read = takes (sym.Name ∷ sym.Is ∷ sym.Part ∷ sym.MoreParts ∷ sym.MoreKeys ∷ [])
turn sym.Keys Write = takes (sym.Name ∷ sym.Is ∷ sym.Part ∷ sym.MoreParts ∷ sym.MoreKeys ∷ [])
turn sym.Keys _ = refuses
turn sym.MoreKeys Read = takes (sym.Name ∷ sym.Is ∷ sym.Part ∷ sym.MoreParts ∷ sym.MoreKeys ∷ [])
turn sym.MoreKeys Write = takes (sym.Name ∷ sym.Is ∷ sym.Part ∷ sym.MoreParts ∷ sym.MoreKeys ∷ [])
turn sym.MoreKeys Begin = takes (sym.Statements ∷ [])
turn sym.MoreKeys _ = refuses
turn sym.Part (Text t) = takes []
turn sym.Part (Name x) = takes []
turn sym.Part Show = takes (sym.Open ∷ sym.Name ∷ sym.Close ∷ [])
turn sym.Part _ = refuses
turn sym.MoreParts (OpToken op.Join) = takes (sym.Part ∷ sym.MoreParts ∷ [])
turn sym.MoreParts Semicolon = takes []
turn sym.MoreParts _ = refuses
turn sym.Statements t = statement t
turn sym.AfterIf Else = takes (sym.Begin ∷ sym.Statements ∷ sym.Statements ∷ [])
turn sym.AfterIf t = statement t
turn sym.Item Row = takes (sym.Open ∷ sym.Name ∷ sym.Close ∷ [])
turn sym.Item t = operand 0 t
turn sym.MoreItems Comma = takes (sym.Item ∷ sym.MoreItems ∷ [])
turn sym.MoreItems Semicolon = takes []
turn sym.MoreItems _ = refuses
turn (sym.Level n) t = operand n t
turn (sym.Tail n) t = operator n t

-- the stack after what a token did to its first symbol, where `below` are the symbols behind that one, and `passed` the
-- stack if the token is put to them
abbrev pub after_turn : Turn → List Sym → Option (List Sym) → Option (List Sym)
after_turn (takes expected) below passed = Some (expected ++ below)
after_turn passes below passed = passed
after_turn refuses below passed = None

-- the stack after a token, if the machine goes on; none where the token is refused, or where nothing is expected
abbrev pub advance : List Sym → Token → Option (List Sym)
advance [] t = None
advance (s ∷ below) t = after_turn (turn s t) below (advance below t)

-- what comes next from a stack, if there is one
abbrev pub onward : Option (List Sym) → (List Sym → Option (List Sym)) → Option (List Sym)
onward None next = None
onward (Some stack) next = next stack

-- the stack after some tokens, if the machine goes on to their end
abbrev pub run : List Sym → List Placed → Option (List Sym)
run stack [] = Some stack
run stack (t ∷ ts) = onward (advance stack t.token) (λ after. run after ts)

-- what a step of the code is as a turn: its symbols, and then what may follow an operand of its level
abbrev pub turn_of : Step → Turn
turn_of (Takes now level) = takes (now.now ++ tails level)
turn_of Passes = passes
turn_of Refuses = refuses

-- whether the machine goes on from the one stack with the token: if so, to the other stack; if not, there is no stack
-- after it
abbrev pub Advances : List Sym → Token → List Sym → Bool → Type 0
Advances old t new true = advance old t ≡ Some new
Advances old t new false = advance old t ≡ None

-- the symbol stands for one token, and for no more: a name, a text, or a sign
abbrev pub IsSingleSym : Sym → Type 0
IsSingleSym sym.Name = Unit {0}
IsSingleSym sym.Text = Unit {0}
IsSingleSym sym.Open = Unit {0}
IsSingleSym sym.Close = Unit {0}
IsSingleSym sym.Begin = Unit {0}
IsSingleSym sym.Colon = Unit {0}
IsSingleSym sym.Is = Unit {0}
IsSingleSym sym.Semicolon = Unit {0}
IsSingleSym _ = ⊥

-- the symbol is one within a key expression: a part, or what may follow one
abbrev pub IsKeyPartSym : Sym → Type 0
IsKeyPartSym sym.Part = Unit {0}
IsKeyPartSym sym.MoreParts = Unit {0}
IsKeyPartSym _ = ⊥

-- the symbol is one before the block of a procedure: the next procedure, its parameters, or its declarations of keys
abbrev pub IsHeadSym : Sym → Type 0
IsHeadSym sym.Procs = Unit {0}
IsHeadSym sym.Params = Unit {0}
IsHeadSym sym.MoreParams = Unit {0}
IsHeadSym sym.Kind = Unit {0}
IsHeadSym sym.Keys = Unit {0}
IsHeadSym sym.MoreKeys = Unit {0}
IsHeadSym sym.Part = Unit {0}
IsHeadSym sym.MoreParts = Unit {0}
IsHeadSym _ = ⊥
