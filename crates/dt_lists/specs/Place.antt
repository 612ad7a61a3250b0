-- A place in a list, or none, as one number: 0 is none, and each other number is the place that is one less. So a place takes
-- as little room as a number. Read next: Index.antt of dt_index, where the places of ids are kept so.
use Rattle.std.specs.Prelude.{ℕ, zero, suc, Option, None, Some}

-- the place that a number stands for: none for 0
abbrev pub place_before : ℕ → Option ℕ
place_before zero = None
place_before (suc place) = Some place
