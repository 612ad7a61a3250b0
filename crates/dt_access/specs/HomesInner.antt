-- Scaffolding: how the homes of a list are kept. A few lie in the list itself, with their number; more lie elsewhere, in common
-- with its copies. Read next: Orders.antt, for the order they stand in.
use Rattle.std.specs.Prelude.{ℕ, ◌≤◌, List, take}
use Rattle.dt_access.specs.declared.homes.Form.{Form}
use Rattle.dt_access.specs.declared.homes.Form.TheVariants.{Few, Many}

-- the homes that are kept so
abbrev pub kept_homes : Form → List ℕ
kept_homes (Few count homes) = take count homes
kept_homes (Many homes) = homes.items

-- what lies in the list itself is not more than fits there
abbrev pub FitsInList : Form → Type 0
FitsInList (Few count homes) = count ≤ 8
FitsInList (Many homes) = Unit {0}
