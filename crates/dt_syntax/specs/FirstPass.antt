-- The first pass decides whether a text is made of what procedures are made of: syntax, and what is one too many. The text
-- is read from the front, and the first fault by place is reported, so that it is one fault whoever looks for it. Names and
-- kinds are left to the second pass. Read next: Limits, for what the second pass may rest on.
use Rattle.std.specs.Prelude.{◌≡◌, ◌⊎◌, ℕ, ◌+◌, ◌-◌, Bool, true, false, if◌then◌else◌, ◌&&◌, ◌||◌, ◌==◌, nat_le, nat_lt, List, [], ◌∷◌, ◌++◌, length, Some, None}
use Rattle.dt_syntax.specs.declared.token.Token.{Token}
use Rattle.dt_syntax.specs.declared.token.Token.TheVariants as tok
use Rattle.dt_syntax.specs.declared.token.Placed.{Placed}
use Rattle.dt_syntax.specs.declared.error.SyntaxError.{SyntaxError}
use Rattle.dt_syntax.specs.declared.error.SyntaxError.TheVariants as fault
use Rattle.dt_syntax.specs.Tokens.{tokens_of}
use Rattle.dt_syntax.specs.Grammar.{InGrammar, Begins}

-- whether a token is the word `proc`
abbrev pub is_proc : Token → Bool
is_proc tok.Proc = true
is_proc _ = false

-- whether a token is the word `read` or `write`
abbrev pub is_mode : Token → Bool
is_mode tok.Read = true
is_mode tok.Write = true
is_mode _ = false

-- whether a token is a name
abbrev pub is_name : Token → Bool
is_name (tok.Name n) = true
is_name _ = false

-- whether a token is a `,`
abbrev pub is_comma : Token → Bool
is_comma tok.Comma = true
is_comma _ = false

-- whether a token is a `)`
abbrev pub is_close : Token → Bool
is_close tok.Close = true
is_close _ = false

-- whether a token opens a bracket: `(` or `{`
abbrev pub is_opening : Token → Bool
is_opening tok.Open = true
is_opening tok.Begin = true
is_opening _ = false

-- whether a token closes a bracket: `)` or `}`
abbrev pub is_closing : Token → Bool
is_closing tok.Close = true
is_closing tok.End = true
is_closing _ = false

-- a token that can stand in an expression or in a key expression. Each of these begins after a `=`, `,`, `if` or `give`, and
-- ends before a `;`, `,` or `{`, none of which can stand in one; so the tokens in a row that can are one expression
abbrev pub is_of_expression : Token → Bool
is_of_expression tok.Proc = false
is_of_expression tok.Read = false
is_of_expression tok.Write = false
is_of_expression tok.Let = false
is_of_expression tok.Set = false
is_of_expression tok.Clear = false
is_of_expression tok.If = false
is_of_expression tok.Else = false
is_of_expression tok.Abort = false
is_of_expression tok.Give = false
is_of_expression tok.Row = false
is_of_expression tok.Begin = false
is_of_expression tok.End = false
is_of_expression tok.Comma = false
is_of_expression tok.Semicolon = false
is_of_expression tok.Colon = false
is_of_expression tok.Is = false
is_of_expression _ = true

-- Tokens that come before another are listed from the last to the first.

-- the token before is one of these
abbrev pub follows : (Token → Bool) → List Placed → Bool
follows p [] = false
follows p (t ∷ earlier) = p t.token

-- how many procedures have begun
abbrev pub procs_begun : List Placed → ℕ
procs_begun [] = 0
procs_begun (t ∷ earlier) = if is_proc t.token then procs_begun earlier + 1 else procs_begun earlier

-- how many of these there are in the procedure so far
abbrev pub in_proc : (Token → Bool) → List Placed → ℕ
in_proc p [] = 0
in_proc p (t ∷ earlier) = if is_proc t.token then 0 else (if p t.token then in_proc p earlier + 1 else in_proc p earlier)

-- how many tokens in a row, the last ones, are of an expression
abbrev pub in_a_row : List Placed → ℕ
in_a_row [] = 0
in_a_row (t ∷ earlier) = if is_of_expression t.token then in_a_row earlier + 1 else 0

-- how many brackets of the procedure are open
abbrev pub brackets_open : List Placed → ℕ
brackets_open [] = 0
brackets_open (t ∷ earlier) =
    if is_proc t.token then 0
    else (if is_opening t.token then brackets_open earlier + 1
    else (if is_closing t.token then brackets_open earlier - 1 else brackets_open earlier))

-- the NAME after the 65th `proc`
abbrev pub is_proc_too_many : List Placed → Token → Bool
is_proc_too_many earlier t = is_name t && follows is_proc earlier && nat_lt 64 (procs_begun earlier)

-- the NAME of a 17th parameter: there are 16 commas, and no `)`, before it in its procedure
abbrev pub is_param_too_many : List Placed → Token → Bool
is_param_too_many earlier t = is_name t && in_proc is_close earlier == 0 && nat_le 16 (in_proc is_comma earlier)

-- the NAME of a 17th key: it follows the 17th `read` or `write` of its procedure
abbrev pub is_key_too_many : List Placed → Token → Bool
is_key_too_many earlier t = is_name t && follows is_mode earlier && nat_lt 16 (in_proc is_mode earlier)

-- the 257th token of an expression
abbrev pub is_token_too_many : List Placed → Token → Bool
is_token_too_many earlier t = is_of_expression t && nat_le 256 (in_a_row earlier)

-- a `(` or `{` that makes more than 64 of them open
abbrev pub is_bracket_too_many : List Placed → Token → Bool
is_bracket_too_many earlier t = is_opening t && nat_le 64 (brackets_open earlier)

-- whether a token, after these others, is one too many of some kind
abbrev pub is_too_many : List Placed → Token → Bool
is_too_many earlier t =
    is_proc_too_many earlier t || is_param_too_many earlier t || is_key_too_many earlier t || is_token_too_many earlier t
    || is_bracket_too_many earlier t

-- none of some tokens, which come after others, is one too many
abbrev pub NoneTooMany : List Placed → List Placed → Type 0
NoneTooMany earlier [] = Unit {0}
NoneTooMany earlier (t ∷ ts) = (is_too_many earlier t.token ≡ false) × NoneTooMany (t ∷ earlier) ts

-- the text has these tokens from its front on, some procedures begin with them, and none is one too many
pub record StartsWell (text : List ℕ) (before after : List Placed) : Type 0 where
  pub tokens : (tokens_of text).tokens ≡ before ++ after
  pub begins : Begins before
  pub few : NoneTooMany [] before

-- the tokens, from the last to the first
abbrev pub backwards : List Placed → List Placed → List Placed
backwards [] earlier = earlier
backwards (t ∷ ts) earlier = backwards ts (t ∷ earlier)

-- the text is all these tokens, which some procedures spell, and none of them is one too many
pub record PassesFirst (text : List ℕ) (tokens : List Placed) : Type 0 where
  pub whole : tokens_of text ≡ record { tokens = tokens; bad = None }
  pub grammar : InGrammar tokens
  pub few : NoneTooMany [] tokens

-- what comes after some tokens is a fault of syntax at the place: a token such that no procedures begin with the tokens up to it,
-- or a place where no token begins, or the end of the text although the tokens are not all those of some procedures
abbrev pub FaultAfter : List ℕ → List Placed → List Placed → ℕ → Type 0
FaultAfter text before [] place =
    ((tokens_of text).bad ≡ Some place) ⊎ (((tokens_of text).bad ≡ None) × (place ≡ length text) × ¬ (InGrammar before))
FaultAfter text before (t ∷ ts) place = (t.place ≡ place) × ¬ (Begins (before ++ t ∷ []))

-- the first fault of a text is one of syntax, at this place: some procedures begin with the tokens before it, and none of
-- these is one too many
pub record IsSyntaxFault (text : List ℕ) (place : ℕ) : Type 0 where
  pub before : List Placed
  pub after : List Placed
  pub well : StartsWell text before after
  pub told : FaultAfter text before after place

-- the first fault is a token that is one too many, with which some procedures go on
pub record IsTooMany (text : List ℕ) (place : ℕ) : Type 0 where
  pub before : List Placed
  pub token : Placed
  pub after : List Placed
  pub well : StartsWell text before (token ∷ after)
  pub goes_on : Begins (before ++ token ∷ [])
  pub too_many : is_too_many (backwards before []) token.token ≡ true
  pub stands : token.place ≡ place

-- what the first pass refuses a text for
abbrev pub FirstFault : List ℕ → SyntaxError → Type 0
FirstFault text (fault.Syntax place) = IsSyntaxFault text place
FirstFault text (fault.TooMany place) = IsTooMany text place
FirstFault text fault.NoMemory = Unit {0}
