-- Where a part of the grammar ends. Whoever reads tokens from the front sees one behind the part that is read, and has to tell by
-- it alone whether the part goes on: an expression goes on with each operator of its own level and of those that bind closer, and
-- ends before any other token; an `if` goes on with an `else`; the statements of a block go on until a `}`; parameters go on with
-- a `,`, and the parts of a key with a `++`. Where these words say of the tokens behind a part that it ends there, it has one
-- syntax tree, which a walk from the front finds. No public call promises anything in them. Read next: WalkInner of dt_proc, for
-- such walks.
use Rattle.std.specs.Prelude.{◌≡◌, ◌<◌, ℕ, Bool, true, List, [], ◌∷◌, MatchBool}
use Rattle.dt_syntax.specs.declared.token.Token.{Token}
use Rattle.dt_syntax.specs.declared.token.Token.TheVariants as tok
use Rattle.dt_syntax.specs.declared.token.Placed.{Placed}
use Rattle.dt_syntax.specs.Grammar.{at, level_of, Param, param_tokens, KeyPart, part_tokens}
use Rattle.dt_syntax.specs.declared.operator.Op.TheVariants as op

-- an expression of the level does not go on with this token
abbrev pub Stops : ℕ → Token → Type 0
Stops n (tok.Op o) = level_of o < n
Stops n _ = Unit {0}

-- an expression of the level does not go on with the first of these tokens, and there is one
abbrev pub FrontStops : ℕ → List Placed → Type 0
FrontStops n [] = ⊥
FrontStops n (t ∷ ts) = Stops n t.token

-- no `else` comes first
abbrev pub NoElse : List Placed → Type 0
NoElse [] = Unit {0}
NoElse (t ∷ ts) = ¬ (t.token ≡ tok.Else)

-- whether a `}` comes first, or nothing
abbrev pub EndsBlock : List Placed → Bool → Type 0
EndsBlock [] ends = ends ≡ true
EndsBlock (t ∷ ts) ends = MatchBool ends (t.token ≡ tok.End) (¬ (t.token ≡ tok.End))

-- the tokens of a parameter after a `,`
abbrev pub comma_param : ℕ × Param → List Placed
comma_param m = at m.0 tok.Comma ∷ param_tokens m.1

-- the tokens of a part of a key expression after a `++`
abbrev pub joined_part : ℕ × KeyPart → List Placed
joined_part m = at m.0 (tok.Op op.Join) ∷ part_tokens m.1
