-- What the first pass ensures beside the grammar: the values of tokens are in range, and procedures have few parameters
-- and keys. The second pass rests on it, so that no procedure that it makes is too large. The limits themselves, with the
-- token at which each is reported, stand in FirstPass. Read next: SecondPass of dt_proc.
use Rattle.std.specs.Prelude.{◌≤◌, ◌∷◌, length, FitsSigned, List}
use Rattle.dt_syntax.specs.declared.token.Token.{Token}
use Rattle.dt_syntax.specs.declared.token.Token.TheVariants as tok
use Rattle.dt_syntax.specs.declared.token.Placed.{Placed}
use Rattle.dt_lists.specs.Lists.{AllIn}
use Rattle.dt_text.specs.Texts.{IsStr, IsName}
use Rattle.dt_syntax.specs.Grammar.{param_kinds, ProcSyntax}
use Rattle.std.specs.Int.{w64}

-- the value of a token is in range
abbrev pub IsSoundToken : Token → Type 0
IsSoundToken (tok.Int z) = FitsSigned w64 z
IsSoundToken (tok.Text t) = IsStr t
IsSoundToken (tok.Name n) = IsName n
IsSoundToken _ = Unit {0}

-- the value of each token is in range
abbrev pub AllSound : List Placed → Type 0
AllSound ts = AllIn (λ t. IsSoundToken t.token) ts

-- a procedure of few parameters and keys
abbrev pub IsSmall : ProcSyntax → Type 0
IsSmall p = (length (param_kinds p.params) ≤ 16) × (length (p.key ∷ p.more_keys) ≤ 16)
