-- A cluster file as a document of TOML, and a table of it as the list of its entries by ascending names. What a document
-- is, is defined by the crate `toml` (`parse_document`); all that is said of cluster files rests on its table. Read next:
-- `Numbers` and `Rows`, the entries one by one, and then `File`, the whole file.
use Rattle.std.specs.Prelude.{◌≡◌, ◌⊎◌, List, [], ◌∷◌, map, Option, Some, None, IsUtf8}
use Rattle.std.specs.Ordering.{nat_cmp}
use Rattle.std.specs.Cmp.Lexicographic.{slice_cmp}
use Rattle.std.specs.List.Sorted.{IsStrictlySortedBy}
use Rattle.dt_text.specs.Texts.{Bytes}
use Rattle.toml.specs.Data.{Data, Members, no_members, member, table}
use Rattle.toml.specs.Parse.{parse_document}

-- an entry of a table: its name and its value
abbrev pub Entry : Type 0
Entry = Bytes × Data

-- the bytes are a document, and this is its table
abbrev pub IsDocument : Bytes → Members → Type 0
IsDocument bytes top = IsUtf8 bytes × (parse_document bytes ≡ Some top)

-- the entries of a table, as TOML keeps them
abbrev pub entries_of : Members → List Entry
entries_of no_members = []
entries_of (member name value rest) = (name, value) ∷ entries_of rest

-- these are the entries of a table, by ascending names in byte order
pub record AreEntries (members : Members) (entries : List Entry) : Type 0 where
  pub ascending : IsStrictlySortedBy (slice_cmp nat_cmp) (map (λ e. e.0) entries)
  pub same : entries ≡ entries_of members

-- the entries of the table at a name: there are none where nothing stands there
abbrev pub AreEntriesAt : Option Data → List Entry → Type 0
AreEntriesAt None entries = entries ≡ []
AreEntriesAt (Some (table members)) entries = AreEntries members entries
AreEntriesAt (Some other) entries = ⊥

-- what stands at a name is no table
abbrev pub IsNoTable : Option Data → Type 0
IsNoTable None = ⊥
IsNoTable (Some (table _)) = ⊥
IsNoTable (Some other) = Unit {0}

-- the first item of a list that is at fault has this name and this cause, and each before it is fine
abbrev pub IsFirstFaulty : {A C : Type 0} → (A → Bytes) → (A → Type 0) → (A → C → Type 0) → List A → Bytes → C → Type 0
IsFirstFaulty name_of Fine Bad [] name cause = ⊥
IsFirstFaulty name_of Fine Bad (x ∷ xs) name cause =
    ((name ≡ name_of x) × Bad x cause) ⊎ (Fine x × IsFirstFaulty name_of Fine Bad xs name cause)
