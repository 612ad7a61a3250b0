-- Only for the functions that the reader of words is made of (`read_word`, `read_item`, ..): what each of them finds, in
-- terms of the words from a place of the line on. No contract of a public call needs this file. Read Words.antt for what
-- a line means, and Reading.antt for how its words are found.
use Rattle.std.specs.Prelude.{◌≡◌, ℕ, ◌<◌, ◌≤◌, ◌∷◌, ◌++◌, [], if◌then◌else◌, nat_lt, List, length, drop, Option, Some, None, IsTrue}
use Rattle.dt_text.specs.Texts.{is_text_byte}
use Rattle.dt_text.specs.Reading.{with_word, words_from, text_from, after_text, IsWordIn}
use Rattle.dt_text.specs.declared.word.Word.{Word}
use Rattle.dt_text.specs.declared.word.Word.TheVariants.{Text}

-- a word begins at the place and ends before another, and the words from the first place on are it and those from the second on
abbrev pub WordAt : List ℕ → ℕ → Option (Word × ℕ) → Type 0
WordAt line at None = words_from at (drop at line) ≡ None
WordAt line at (Some (word, end)) =
    (at < end) × (end ≤ length line) × IsWordIn line word
    × (words_from at (drop at line) ≡ with_word word (words_from end (drop end line)))

-- a text word whose items stand for the text has ended before the place
abbrev pub TextEndsAt : List ℕ → List ℕ → ℕ → Option (Word × ℕ) → Type 0
TextEndsAt line text end None = after_text text end (drop end line) ≡ None
TextEndsAt line text end (Some (word, after)) =
    (word ≡ Text text) × (after ≡ end) × (after_text text end (drop end line) ≡ with_word (Text text) (words_from end (drop end line)))

-- an item of a text word begins at the place, which stands for a byte, and ends before another place
abbrev pub ItemAt : List ℕ → ℕ → Option (ℕ × ℕ) → Type 0
ItemAt line at None = (text : List ℕ) → text_from text at (drop at line) ≡ None
ItemAt line at (Some (byte, next)) =
    (at < next) × (next ≤ length line) × IsTrue (is_text_byte byte)
    × ((text : List ℕ) → text_from text at (drop at line)
    ≡ (if nat_lt (length text) 256 then text_from (text ++ byte ∷ []) next (drop next line) else None))
