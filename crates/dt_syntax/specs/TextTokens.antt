-- The texts of procedures are written as the text words of lines: between two `"`, with a `\` before each `"` and `\`.
-- The definition of a text word stands with the words of lines; this law says that the lexer finds just these. So one who
-- knows how a text stands in a line can write one in a procedure. Read Tokens for how the lexer finds them.
use Rattle.std.specs.Prelude.{◌≡◌, ◌↔◌, ℕ, List, ◌∷◌, ◌++◌, length, Some}
use Rattle.dt_text.specs.Texts.{IsStr}
use Rattle.dt_text.specs.Printed.{text_word}
use Rattle.dt_syntax.specs.declared.token.Token.TheVariants.{Text}
use Rattle.dt_syntax.specs.Tokens.{text_after}

-- the `"` and these bytes after it begin with the text word of the text, which has n bytes
pub record IsTextWordBefore (bytes text_bytes : List ℕ) (size : ℕ) : Type 0 where
  pub text : IsStr text_bytes
  pub rest : List ℕ
  pub cut : 34 ∷ bytes ≡ text_word text_bytes ++ rest
  pub counted : size ≡ length (text_word text_bytes)

-- a text is found after a `"` exactly where a text word begins with that `"`
abbrev pub TextTokensAreTextWords : Type 0
TextTokensAreTextWords = (bytes text : List ℕ) (size : ℕ) → (text_after bytes ≡ Some (Text text, size)) ↔ IsTextWordBefore bytes text size
