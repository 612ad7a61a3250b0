-- Scaffolding: how the rows of an access list are kept. One or two lie in the list itself; any other number of them lies in a
-- vector. Read next: Accesses.antt, for the order they stand in.
use Rattle.std.specs.Prelude.{List, [], ◌∷◌}
use Rattle.dt_access.specs.declared.Access.{Access}
use Rattle.dt_txn.specs.declared.accesses.Items.{Items}
use Rattle.dt_txn.specs.declared.accesses.Items.TheVariants.{One, Two, Many}

-- the rows that are kept so
abbrev pub kept_accesses : Items → List Access
kept_accesses (One item) = item ∷ []
kept_accesses (Two items) = items
kept_accesses (Many items) = items.items
