-- Scaffolding: the rows of a run, of which the code keeps apart what they have and whether they were changed. Only private
-- functions of this crate cite this. Read Data for what a row is.
use Rattle.std.specs.Prelude.{Bool, List, [], ◌∷◌, Option}
use Rattle.dt_access.specs.Clash.{Bytes}
use Rattle.dt_text.specs.declared.Value.{Value}
use Rattle.dt_eval.specs.declared.state.Row.{Row}

-- rows, from the key and the value of each, and whether it was set or cleared
abbrev pub rows_in : List (Bytes × Option Value) → List Bool → List Row
rows_in [] changed = []
rows_in (item ∷ items) [] = []
rows_in (item ∷ items) (c ∷ changed) = record { key = item.0; value = item.1; changed = c } ∷ rows_in items changed
