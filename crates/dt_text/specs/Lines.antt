-- How a file is cut into lines, and which of them count. A file is bytes; byte 10 ends a line, and the last line need not
-- have one. Lines of spaces and lines that begin with `#` are skipped, but keep their number, so that a fault is reported by
-- the number that an editor shows. Read next: Words.antt, for what a line is made of.
use Rattle.std.specs.Prelude.{ℕ, ◌+◌, Bool, true, if◌then◌else◌, ◌==◌, List, [], ◌∷◌}
use Rattle.std.specs.List.{onto_first}

-- the lines of a file: each byte 10 ends a line, and bytes after the last 10 are a last line
abbrev pub cut_lines : List ℕ → List (List ℕ)
cut_lines [] = []
cut_lines (b ∷ bs) = if b == 10 then [] ∷ cut_lines bs else onto_first b (cut_lines bs)

-- a line is skipped where it has nothing but spaces, or where `#` is its first byte other than a space
abbrev pub is_skipped : List ℕ → Bool
is_skipped [] = true
is_skipped (b ∷ bs) = if b == 32 then is_skipped bs else b == 35

-- a line of a file, with its number
pub record FileLine : Type 0 where
  pub number : ℕ
  pub bytes : List ℕ

-- those of some lines that are not skipped, where the first of all has this number
abbrev pub kept_lines : ℕ → List (List ℕ) → List FileLine
kept_lines number [] = []
kept_lines number (line ∷ lines) =
    if is_skipped line then kept_lines (number + 1) lines
    else record { number = number; bytes = line } ∷ kept_lines (number + 1) lines

-- the lines of a file that are not skipped, counted from 1 among all its lines
abbrev pub lines_of : List ℕ → List FileLine
lines_of file = kept_lines 1 (cut_lines file)
