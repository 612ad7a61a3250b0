-- Granules: the keys that belong together. The key of a customer, say `ann`, and those of the customer's rows,
-- `ann/balance` and `ann/limit`, are of one granule, `ann`. In version 1 of a cluster each key has a home and moves of
-- its own; in version 2 a granule has them, so that one move takes along all its rows. A granule is known from the bytes
-- of a key alone, so every region cuts keys alike. Read next: Clash.antt, for what clashes by rows and by granules.
use Rattle.std.specs.Prelude.{◌≡◌, ℕ, if◌then◌else◌, not, ◌==◌, [], ◌∷◌}
use Rattle.std.specs.List.{take_while}
pub use Rattle.dt_text.specs.Texts.{Bytes}
use Rattle.dt_text.specs.Texts.{IsKey}
use Rattle.dt_access.specs.declared.access.Mode.{Mode}
use Rattle.dt_access.specs.declared.access.Mode.TheVariants.{Write, Whole}

-- the granule of a key: what stands before the first `/` that has a byte before it, or the whole key where there is none
abbrev pub granule_of : Bytes → Bytes
granule_of [] = []
granule_of (first ∷ rest) = first ∷ take_while (λ b. not (b == 47)) rest

-- the unit of a key, which has a home and moves: in version 2 of a cluster its granule, else the key itself
abbrev pub unit_of : ℕ → Bytes → Bytes
unit_of version key = if version == 2 then granule_of key else key

-- what has a home and moves of its own: what is its own unit
abbrev pub IsUnit : ℕ → Bytes → Type 0
IsUnit version key = unit_of version key ≡ key

-- a key that is a unit: it may stand among the homes of a cluster file, and be moved
abbrev pub IsUnitKey : ℕ → Bytes → Type 0
IsUnitKey version key = IsKey key × IsUnit version key

-- how a move uses the key that it moves: it writes it, or, where units are granules, it takes the granule as a whole
abbrev pub mode_of_move : ℕ → Mode
mode_of_move version = if version == 2 then Whole else Write
