-- Scaffolding: the list by which a table guesses where the units stand that were moved, and knows of most others that they
-- were not. No contract of a public call uses these words; read Table.antt for what callers see.
use Rattle.std.specs.Prelude.{◌+◌, ◌*◌, ◌%◌, ◌<◌, ℕ, List, [], ◌∷◌, get_or}
use Rattle.dt_access.specs.Clash.{Bytes}
use Rattle.dt_lists.specs.Lists.{AllIn}

-- the number to which bytes lead on from a number
abbrev pub unit_number_from : ℕ → List ℕ → ℕ
unit_number_from number [] = number
unit_number_from number (byte ∷ bytes) = unit_number_from ((number * 31 + byte) % 16384) bytes

-- the number that the bytes of a unit lead to
abbrev pub unit_number : Bytes → ℕ
unit_number unit = unit_number_from 0 unit

-- a unit of this number may stand somewhere: the list has more than 0 for it, or nothing
abbrev pub IsNoted : List ℕ → ℕ → Type 0
IsNoted after number = 0 < get_or after number 1

-- each of these units may
abbrev pub AreNoted : {V : Type 0} → List ℕ → List (Bytes × V) → Type 0
AreNoted after units = AllIn (λ e. IsNoted after (unit_number e.0)) units
