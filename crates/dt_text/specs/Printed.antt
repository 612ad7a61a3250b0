-- How texts and values are printed. A value has one printed form, and it is read back as the same value: a `\` before
-- each `"` and `\` of a text lets the reader tell the text's end. Read next: Words.antt, for what the reader makes of
-- such a word.
use Rattle.std.specs.Prelude.{ℕ, if◌then◌else◌, ◌||◌, ◌==◌, List, [], ◌∷◌, ◌++◌}
use Rattle.std.specs.Fmt.{signed_decimal}
use Rattle.std.specs.List.{flat_map}
use Rattle.dt_text.specs.declared.value.Value.{Value}
use Rattle.dt_text.specs.declared.value.Value.TheVariants.{Int, Text}

-- how a byte stands in a text word: `"` and `\` after a `\`, and every other byte alone
abbrev pub text_item : ℕ → List ℕ
text_item b = if b == 34 || b == 92 then 92 ∷ b ∷ [] else b ∷ []

-- the bytes of a text as they stand in a text word
abbrev pub text_items : List ℕ → List ℕ
text_items t = flat_map text_item t

-- the text word of a text: its bytes between two `"`
abbrev pub text_word : List ℕ → List ℕ
text_word t = 34 ∷ (text_items t ++ 34 ∷ [])

-- the printed form of a value: the number, or the text word
abbrev pub value_text : Value → List ℕ
value_text (Int number) = signed_decimal number
value_text (Text text) = text_word text
