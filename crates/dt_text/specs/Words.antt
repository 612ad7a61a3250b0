-- What it means that a line is made of words, said without a reader: the line is spaces and words, a space after each
-- word but the last, and each word is spelled as it should be. Read next: Reading.antt, which finds the words from left
-- to right; the law `WordsAreExact` there says that it finds just these.
use Rattle.std.specs.Prelude.{◌≡◌, ◌≢◌, ℕ, ◌+◌, ◌<◌, Bool, ◌&&◌, ◌==◌, nat_le, List, [], ◌∷◌, ◌++◌, length, slice_index, IsTrue}
use Rattle.std.specs.List.{list_all}
use Rattle.dt_text.specs.Printed.{text_word}
use Rattle.dt_text.specs.Texts.{IsStr}
use Rattle.dt_text.specs.declared.word.Word.{Word}
use Rattle.dt_text.specs.declared.word.Word.TheVariants.{Bare, Text}

-- whether a byte is a visible character of ASCII
abbrev pub is_visible : ℕ → Bool
is_visible b = nat_le 33 b && nat_le b 126

-- a bare word: one or more visible bytes, of which the first is not `"`
abbrev pub IsBareWord : List ℕ → Type 0
IsBareWord bs = (0 < length bs) × (slice_index bs 0 ≢ 34) × IsTrue (list_all is_visible bs)

-- the bytes, which stand from this place of a line on, spell the word: a bare word has its two ends, and a text word is the printed form of its text
abbrev pub Spells : List ℕ → ℕ → Word → Type 0
Spells bs at (Bare from to) = IsBareWord bs × (from ≡ at) × (to ≡ at + length bs)
Spells bs at (Text text) = IsStr text × (bs ≡ text_word text)

-- words, each with a space before it
abbrev pub spaced : List (List ℕ) → List ℕ
spaced [] = []
spaced (word ∷ words) = 32 ∷ (word ++ spaced words)

-- the bytes are spaces, or there are none
abbrev pub AreSpaces : List ℕ → Type 0
AreSpaces bs = IsTrue (list_all (λ b. b == 32) bs)

-- a word may end before these bytes: there is none, or a space comes first
abbrev pub MayFollowWord : List ℕ → Type 0
MayFollowWord [] = Unit {0}
MayFollowWord (b ∷ bs) = b ≡ 32

-- the bytes, which stand from this place of a line on, are these words: spaces and a word, and then the others, or spaces alone
abbrev pub AreWordsFrom : ℕ → List ℕ → List Word → Type 0
AreWordsFrom at bs [] = AreSpaces bs
AreWordsFrom at bs (word ∷ words) =
    (gap spelling rest : List ℕ) × (bs ≡ gap ++ (spelling ++ rest)) × AreSpaces gap
    × Spells spelling (at + length gap) word × MayFollowWord rest
    × AreWordsFrom (at + length gap + length spelling) rest words

-- a line is made of these words
abbrev pub AreWords : List ℕ → List Word → Type 0
AreWords line words = AreWordsFrom 0 line words
