-- Rows and granules, by numbers. A row is a key at a home; its granule is the granule of the key at that home. Both are
-- numbered in the order of their first use, so that what is kept of a row lies in a table (`TableInner`), and names are looked up once at a
-- push. A row's name lies in the table too. Read next: `ListedInner`, for the rows that came to be used between two pushes.
use Rattle.std.specs.Prelude.{◌≡◌, ℕ, ◌<◌, List, [], get_or, slice_get, length, Some}
use Rattle.dt_lists.specs.Lists.{Distinct, IsFront}
use Rattle.dt_access.specs.Granules.{granule_of}
use Rattle.dt_access.specs.Clash.{Bytes}
use Rattle.dt_queue.specs.TableInner.{granules_of, row_names}
use Rattle.dt_queue.specs.declared.rows.Rows.{Rows}

-- the home and the key of a row, by its number; past the end an arbitrary name
abbrev pub name_at : List (ℕ × Bytes) → ℕ → ℕ × Bytes
name_at names row = get_or names row (0, [])

-- the name of the granule of a row
abbrev pub granule_name : ℕ × Bytes → ℕ × Bytes
granule_name name = (name.0, granule_of name.1)

-- the names of rows and of granules, by their numbers; and of each row in the table its name and its granule
pub record RowLinks : Type 0 where
  pub names : List (ℕ × Bytes)
  pub granules : List (ℕ × Bytes)
  pub name_of : List (ℕ × Bytes)
  pub granule_of : List ℕ

-- those of the rows that are kept
abbrev pub links : Rows → RowLinks
links r = record { names = r.names.keys; granules = r.granules.keys; name_of = row_names r.table.items; granule_of = granules_of r.table.items }

-- the number of the granule of a row
abbrev pub granule_at : RowLinks → ℕ → ℕ
granule_at l row = get_or l.granule_of row 0

-- names of rows and granules, and the name and the granule of each row in the table, belong together
pub record AreTied (names granules name_of : List (ℕ × Bytes)) (granule_of : List ℕ) : Type 0 where
  pub names_once : Distinct names
  pub granules_once : Distinct granules
  pub named : name_of ≡ names
  pub each_row : length granule_of ≡ length names
  pub granule : (row : ℕ) → row < length names → slice_get granules (get_or granule_of row 0) ≡ Some (granule_name (name_at names row))

-- each row knows its name and its granule
abbrev pub AreRowsLinked : RowLinks → Type 0
AreRowsLinked l = AreTied l.names l.granules l.name_of l.granule_of

-- rows may have been added, and all others have their numbers and granules as before
pub record KeepsRows (old new : RowLinks) : Type 0 where
  pub names : IsFront old.names new.names
  pub granules : (row : ℕ) → row < length old.names → granule_at new row ≡ granule_at old row
