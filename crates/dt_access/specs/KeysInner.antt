-- Scaffolding: how the keys of a list are kept. One alone lies in the list itself; any other number of them lies elsewhere.
-- Read next: Orders.antt, for the order they stand in.
use Rattle.std.specs.Prelude.{ℕ, List, [], ◌∷◌}
use Rattle.dt_access.specs.declared.access.Mode.{Mode}
use Rattle.dt_access.specs.declared.keys.Form.{Form}
use Rattle.dt_access.specs.declared.keys.Form.TheVariants.{One, Many}

-- the keys with their modes that are kept so
abbrev pub kept_keys : Form → List (List ℕ × Mode)
kept_keys (One item) = item ∷ []
kept_keys (Many items) = items.items
