-- Scaffolding: variables that are found by a map from their names, since there may be very many of them. Skip it; read
-- Names for what a name means.
use Rattle.std.specs.Prelude.{◌≡◌, ◌==◌, ℕ, Bool, false, List, Option, Some, None}
use Rattle.std.specs.Ordering.{nat_cmp}
use Rattle.std.specs.Cmp.Lexicographic.{slice_cmp}
use Rattle.std.specs.BTreeMap.{BTreeMap, get}
use Rattle.dt_proc.specs.declared.tree.Sort.{Sort}
use Rattle.dt_proc.specs.Names.{entry_of}

-- the map has, for each name, the first variable that has it, with its number
abbrev pub AreNumbers : BTreeMap (List ℕ) (ℕ × Sort) → List (List ℕ × Sort) → Type 0
AreNumbers numbers variables = (name : List ℕ) → get (slice_cmp nat_cmp) numbers name ≡ entry_of variables name

-- the entry is there and has this number
abbrev pub is_number : ℕ → Option (ℕ × Sort) → Bool
is_number number None = false
is_number number (Some entry) = entry.0 == number
