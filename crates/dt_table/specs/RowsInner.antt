-- Scaffolding: how the code keeps values. Those of the opening stand in one list that tables share, and each table keeps
-- beside it, place by place, what it has changed; `rows_now` is what the two come to. Keys that are not in the opening stand
-- after them. No contract of a public call uses these words; read Table.antt for what callers see.
use Rattle.std.specs.Prelude.{◌≡◌, ℕ, List, [], ◌∷◌, map, length, position, Option, Some, None}
use Rattle.std.specs.List.{IsDistinct}
use Rattle.std.specs.Map.{keys_of}
use Rattle.dt_lists.specs.Lists.{AllIn}
use Rattle.dt_access.specs.Clash.{Bytes, same_key}
use Rattle.dt_text.specs.declared.Value.{Value}
use Rattle.dt_table.specs.declared.opened.Kept.{Kept}
use Rattle.dt_table.specs.declared.opened.Kept.TheVariants.{AsOpened, Now}

-- keys with what they have
abbrev pub KeyValues : Type 0
KeyValues = List (Bytes × Option Value)

-- rows as entries of a table
abbrev pub first_values : List (Bytes × Value) → KeyValues
first_values rows = map (λ r. (r.0, Some r.1)) rows

-- what a row has now that had this value in the opening
abbrev pub kept_value : Value → Kept → Option Value
kept_value value AsOpened = Some value
kept_value value (Now changed) = changed

-- the rows of the opening, each with what it has now
abbrev pub rows_now : List (Bytes × Value) → List Kept → KeyValues
rows_now [] kept = []
rows_now (r ∷ rows) [] = []
rows_now (r ∷ rows) (k ∷ kept) = (r.0, kept_value r.1 k) ∷ rows_now rows kept

-- no key stands twice in the opening, and something is kept of each row
pub record AreOpened (rows : List (Bytes × Value)) (kept : List Kept) : Type 0 where
  pub once : IsDistinct same_key (keys_of rows)
  pub each : length kept ≡ length rows

-- no key of the others is one of these
abbrev pub AreOthers : List Bytes → KeyValues → Type 0
AreOthers keys others = AllIn (λ e. position (same_key e.0) keys ≡ None) others

-- values with the keys that have them, and for how many more keys there is room
pub record RowsView : Type 0 where
  pub entries : KeyValues
  pub spare : ℕ
