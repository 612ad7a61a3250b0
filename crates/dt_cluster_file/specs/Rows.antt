-- The entries of the tables `homes` and `rows`. A home is a key, in version 2 a granule, with the number of a region; a
-- row is a key with a number or a text. For an entry that is neither, the cause is stated. Read next: `File`, which goes
-- through them by ascending names.
use Rattle.std.specs.Prelude.{◌≡◌, ◌⊎◌, ◌<◌, ℕ, pos, FitsSigned}
use Rattle.std.specs.Int.{w64}
use Rattle.dt_text.specs.Texts.{IsKey, IsStr}
use Rattle.dt_text.specs.declared.value.Value.{Value}
use Rattle.dt_text.specs.declared.value.Value.TheVariants.{Int, Text}
use Rattle.dt_access.specs.Granules.{IsUnitKey}
use Rattle.toml.specs.Data.{Data, integer, string}
use Rattle.dt_text.specs.Texts.{Bytes}
use Rattle.dt_cluster_file.specs.Document.{Entry}
use Rattle.dt_cluster_file.specs.declared.error.ClusterCause.{ClusterCause}
use Rattle.dt_cluster_file.specs.declared.error.ClusterCause.TheVariants.{BadKey, BadText, Kind, Range}

-- an entry of `homes`, in a cluster of this version with n regions: its name is a key that is a unit, which in version
-- 2 is a granule, and its value an integer that is the number of a region
abbrev pub IsHome : ℕ → ℕ → Entry → Bytes × ℕ → Type 0
IsHome version regions entry home =
    (home.0 ≡ entry.0) × IsUnitKey version home.0 × (entry.1 ≡ integer (pos home.1)) × (home.1 < regions)

-- a value that is not a home is not an integer, or not the number of a region
abbrev pub IsNoHome : ℕ → Data → ClusterCause → Type 0
IsNoHome regions (integer z) cause = (cause ≡ Range) × ((n : ℕ) → z ≡ pos n → ¬ (n < regions))
IsNoHome regions other cause = cause ≡ Kind

-- why an entry of `homes` is not one: its name is not a key that has a home of its own; else its value is not a home
abbrev pub IsBadHome : ℕ → ℕ → Entry → ClusterCause → Type 0
IsBadHome version regions entry cause =
    ((cause ≡ BadKey) × ¬ (IsUnitKey version entry.0)) ⊎ (IsUnitKey version entry.0 × IsNoHome regions entry.1 cause)

-- the value is this one: an integer is the number, which has 64 bits, and a string the text
abbrev pub IsValue : Data → Value → Type 0
IsValue (integer z) (Int y) = (y ≡ z) × FitsSigned w64 z
IsValue (string s) (Text t) = (t ≡ s) × IsStr t
IsValue other value = ⊥

-- an entry of `rows`: a key, and an integer or a string that is a text
abbrev pub IsRow : Entry → Bytes × Value → Type 0
IsRow entry row = (row.0 ≡ entry.0) × IsKey row.0 × IsValue entry.1 row.1

-- a value that is not one is neither integer nor string, or a string that is not a text
abbrev pub IsNoValue : Data → ClusterCause → Type 0
IsNoValue (integer z) cause = ⊥
IsNoValue (string s) cause = (cause ≡ BadText) × ¬ (IsStr s)
IsNoValue other cause = cause ≡ Kind

-- why an entry of `rows` is not one: its name is not a key; else its value is not one
abbrev pub IsBadRow : Entry → ClusterCause → Type 0
IsBadRow entry cause = ((cause ≡ BadKey) × ¬ (IsKey entry.0)) ⊎ (IsKey entry.0 × IsNoValue entry.1 cause)
