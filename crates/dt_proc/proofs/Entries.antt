-- Names, and the entries that have them.
use Rattle.std.proofs.Common.{◌≡◌, ℕ, ◌+◌, List, drop, Option}
use Rattle.std.specs.Option.{option_map}
use Rattle.dt_proc.specs.Names.{entry_of}

-- an entry that was found from a place on
abbrev pub moved_by : {A : Type 0} → ℕ → Option (ℕ × A) → Option (ℕ × A)
moved_by i o = option_map (λ r. (r.0 + i, r.1)) o

-- none so far has the name
abbrev pub SoFar : {A : Type 0} → List (List ℕ × A) → List ℕ → ℕ → Type 0
SoFar es name i = entry_of es name ≡ moved_by i (entry_of (drop i es) name)
