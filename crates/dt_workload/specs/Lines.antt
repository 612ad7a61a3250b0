-- The forms that a line of a workload file can have: `session NAME at REGION`, `call PROC ARG ..`, `move KEY to REGION`.
-- The first word of a call or a move gives its rank, as in `call/2`; `call` alone is of rank 5, and so is `call/5`. So the
-- words of a form are a relation: a form may be spelled in two ways, but a line has one form at most. Read next: `Valid`,
-- for what the words have to name, and `File`, for what lines make together.
use Rattle.std.specs.Prelude.{◌≡◌, ◌⊎◌, ℕ, ◌<◌, ◌^◌, List, [], ◌∷◌, ◌++◌, map, codes}
use Rattle.std.specs.List.{slice_range}
use Rattle.std.specs.Fmt.{decimal, signed_decimal}
use Rattle.dt_lists.specs.Lists.{AllIn}
use Rattle.dt_text.specs.Texts.{Bytes}
use Rattle.dt_text.specs.Values.{IsRowValue}
use Rattle.dt_text.specs.Words.{AreWords}
use Rattle.dt_text.specs.declared.Word.{Word}
use Rattle.dt_text.specs.declared.Word.TheVariants as word
use Rattle.dt_text.specs.declared.Value.{Value}
use Rattle.dt_text.specs.declared.Value.TheVariants.{Int, Text}

-- a word by what it says: a bare word its bytes, a text word its text
pub data Said : Type 0 where
  bare : Bytes → Said
  quoted : Bytes → Said

-- what a word of a line says
abbrev pub said : Bytes → Word → Said
said line (word.Bare from to) = bare (slice_range line from to)
said line (word.Text text) = quoted text

-- a line by its form: `session NAME at REGION`, `call PROC ARG ..` or `move KEY to REGION`, the last two with a rank
pub data Form : Type 0 where
  session_line : Bytes → ℕ → Form
  call_line : ℕ → Bytes → List Value → Form
  move_line : ℕ → Bytes → ℕ → Form

-- how an argument is written: a number as a bare word, a text as a text word
abbrev pub argument_word : Value → Said
argument_word (Int z) = bare (signed_decimal z)
argument_word (Text t) = quoted t

-- the word that begins a line of this rank: the word for its kind, which stands for rank 5, or that word, a `/` and the rank
abbrev pub IsRanked : Bytes → ℕ → Said → Type 0
IsRanked kind rank head = ((rank ≡ 5) × (head ≡ bare kind)) ⊎ (head ≡ bare (kind ++ 47 ∷ decimal rank))

-- the word that begins a form
abbrev pub IsFirstWord : Form → Said → Type 0
IsFirstWord (session_line name region) head = head ≡ bare (codes "session")
IsFirstWord (call_line rank proc args) head = IsRanked (codes "call") rank head
IsFirstWord (move_line rank key region) head = IsRanked (codes "move") rank head

-- the words of a form after the one that begins it
abbrev pub other_words : Form → List Said
other_words (session_line name region) = bare name ∷ bare (codes "at") ∷ bare (decimal region) ∷ []
other_words (call_line rank proc args) = bare proc ∷ map argument_word args
other_words (move_line rank key region) = bare key ∷ bare (codes "to") ∷ bare (decimal region) ∷ []

-- the words spell the form: the word that begins it, and then the others
abbrev pub SpellForm : Form → List Said → Type 0
SpellForm form words = (head : Said) × IsFirstWord form head × (words ≡ head ∷ other_words form)

-- a form that can be written: its number of a region has 32 bits, its rank is one digit, and its arguments are such
abbrev pub IsForm : Form → Type 0
IsForm (session_line name region) = region < 2 ^ 32
IsForm (call_line rank proc args) = (rank < 10) × AllIn IsRowValue args
IsForm (move_line rank key region) = (rank < 10) × (region < 2 ^ 32)

-- a line has the form: it is made of words that spell it
abbrev pub HasForm : Bytes → Form → Type 0
HasForm line form = IsForm form × ((words : List Word) × AreWords line words × SpellForm form (map (said line) words))
