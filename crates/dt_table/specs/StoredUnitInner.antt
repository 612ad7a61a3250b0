-- Scaffolding: how the code keeps one unit. A stored unit has its home and its number of moves beside it, so that both
-- are read without a walk along its moves. Units are looked up by their bytes, so that the front of a key serves and
-- takes no memory. No contract of a public call uses these words; read Table.antt for what they come to. Read next:
-- StoredMovesInner.antt, for where the moves are.
use Rattle.std.specs.Prelude.{ℕ, Bool, not, nat_lt, ◌&&◌, List, [], ◌∷◌, map, flat_map, Option, None, is_some, unwrap_or, if◌then◌else◌}
use Rattle.std.specs.Map.{lookup}
use Rattle.std.specs.declared.vec.Vec.{Vec}
use Rattle.dt_access.specs.Clash.{Bytes, same_key}
use Rattle.dt_text.specs.declared.Value.{Value}
use Rattle.dt_table.specs.declared.stored.StoredUnit.{StoredUnit}

-- entries, by the bytes of their keys
abbrev pub by_bytes : {Z V : Type 0} → List (Vec ℕ Z × V) → List (Bytes × V)
by_bytes entries = map (λ e. (e.0.items, e.1)) entries

-- a unit with this home that was never moved
abbrev pub fresh_unit : ℕ → StoredUnit
fresh_unit home = record { home = home; counter = 0; last = None }

-- the stored unit, or else a fresh one with this home
abbrev pub stored_of : List (Bytes × StoredUnit) → Bytes → ℕ → StoredUnit
stored_of units unit home = unwrap_or (lookup (same_key unit) units) (fresh_unit home)

-- whether a key has a value among these
abbrev pub has_value : List (Bytes × Option Value) → Bytes → Bool
has_value values key = is_some (unwrap_or (lookup (same_key key) values) None)

-- the keys that have a value
abbrev pub keys_with_value : List (Bytes × Option Value) → List Bytes
keys_with_value values = flat_map (λ e. if is_some e.1 then e.0 ∷ [] else []) values

-- the units that were moved and have no value as keys
abbrev pub moved_without_value : List (Bytes × Option Value) → List (Bytes × StoredUnit) → List Bytes
moved_without_value values units = flat_map (λ u. if nat_lt 0 u.1.counter && not (has_value values u.0) then u.0 ∷ [] else []) units
