-- The words of a line, found byte by byte from a place on. That they are the words which the line is made of, and that
-- there are none exactly where it is made of no words, is the law `WordsAreExact`. Read Words.antt before. Read next:
-- src/word.rt, the reader.
use Rattle.std.specs.Prelude.{◌≡◌, ℕ, ◌+◌, ◌<◌, ◌≤◌, if◌then◌else◌, ◌==◌, ◌||◌, ◌&&◌, nat_lt, ◌↔◌, List, [], ◌∷◌, ◌++◌, length, drop, Option, Some, None}
use Rattle.std.specs.Option.{option_map}
use Rattle.dt_text.specs.Texts.{is_text_byte, IsStr}
use Rattle.dt_text.specs.Printed.{text_word}
use Rattle.dt_text.specs.Words.{is_visible, AreWords}
use Rattle.dt_text.specs.declared.word.Word.{Word}
use Rattle.dt_text.specs.declared.word.Word.TheVariants.{Bare, Text}

-- the words, with one before them
abbrev pub with_word : Word → Option (List Word) → Option (List Word)
with_word word words = option_map (λ ws. word ∷ ws) words

unfoldable mutual
  -- between two words
  pub words_from : ℕ → List ℕ → Option (List Word)
  words_from at [] = Some []
  words_from at (b ∷ bs) =
      if b == 32 then words_from (at + 1) bs
      else (if b == 34 then text_from [] (at + 1) bs
      else (if is_visible b then bare_from at (at + 1) bs else None))

  -- in a bare word that began at the first place
  pub bare_from : ℕ → ℕ → List ℕ → Option (List Word)
  bare_from from at [] = Some (Bare from at ∷ [])
  bare_from from at (b ∷ bs) =
      if b == 32 then with_word (Bare from at) (words_from (at + 1) bs)
      else (if is_visible b then bare_from from (at + 1) bs else None)

  -- in a text word, whose items so far stand for the text
  pub text_from : List ℕ → ℕ → List ℕ → Option (List Word)
  text_from text at [] = None
  text_from text at (b ∷ bs) =
      if b == 34 then after_text text (at + 1) bs
      else (if b == 92 then escape_from text (at + 1) bs
      else (if is_text_byte b && nat_lt (length text) 256 then text_from (text ++ b ∷ []) (at + 1) bs else None))

  -- in a text word, after a `\`
  pub escape_from : List ℕ → ℕ → List ℕ → Option (List Word)
  escape_from text at [] = None
  escape_from text at (b ∷ bs) =
      if (b == 34 || b == 92) && nat_lt (length text) 256 then text_from (text ++ b ∷ []) (at + 1) bs else None

  -- after the last `"` of a text word
  pub after_text : List ℕ → ℕ → List ℕ → Option (List Word)
  after_text text at [] = Some (Text text ∷ [])
  after_text text at (b ∷ bs) = if b == 32 then with_word (Text text) (words_from (at + 1) bs) else None

-- a bare word that goes on at the first place ends before the second
abbrev pub BareEndsAt : List ℕ → ℕ → ℕ → Type 0
BareEndsAt line at end =
    (from : ℕ) → bare_from from at (drop at line) ≡ with_word (Bare from end) (words_from end (drop end line))

-- the words of a line, if it is made of words
unfoldable pub words_of : List ℕ → Option (List Word)
words_of line = words_from 0 line

-- a bare word stands within the line, and a text word has a text
abbrev pub IsWordIn : List ℕ → Word → Type 0
IsWordIn line (Bare from to) = (from < to) × (to ≤ length line)
IsWordIn line (Text text) = IsStr text

-- the words of a line are those that it is made of, and there are none exactly where it is made of no words
abbrev pub WordsAreExact : Type 0
WordsAreExact = (line : List ℕ) (words : List Word) → (words_of line ≡ Some words) ↔ AreWords line words

-- a text word that was printed is read as the same text
abbrev pub PrintedTextsReadBack : Type 0
PrintedTextsReadBack = (text : List ℕ) → IsStr text → words_of (text_word text) ≡ Some (Text text ∷ [])
