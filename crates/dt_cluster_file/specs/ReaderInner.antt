-- Inner words, for the private parts of the reader alone: what each part answers, stated of the table that it looks at.
-- `File` says the same of the whole document; a reader of the contracts of `dt_cluster_file` can skip this file. Read
-- next: `File`.
use Rattle.std.specs.Prelude.{◌≡◌, ◌<◌, ◌^◌, ℕ, List, Some, length, codes}
use Rattle.dt_lists.specs.Lists.{Pairwise}
use Rattle.dt_text.specs.declared.value.Value.{Value}
use Rattle.toml.specs.Data.{Members, get_member, string}
use Rattle.dt_text.specs.Texts.{Bytes}
use Rattle.dt_cluster_file.specs.Document.{Entry, AreEntries, IsFirstFaulty}
use Rattle.dt_cluster_file.specs.Numbers.{NumberEntry, HasBadNumber}
use Rattle.dt_cluster_file.specs.Rows.{IsHome, IsBadHome, IsRow, IsBadRow}
use Rattle.dt_cluster_file.specs.declared.error.ClusterCause.{ClusterCause}
use Rattle.dt_cluster_file.specs.declared.error.ClusterPlace.{ClusterPlace}
use Rattle.dt_cluster_file.specs.declared.error.ClusterPlace.TheVariants as place
use Rattle.dt_cluster_file.specs.declared.error.ClusterFault.{ClusterFault}

-- the fault stands at this place, and its cause is one that holds there
abbrev pub IsFaultAt : ClusterPlace → (ClusterCause → Type 0) → ClusterFault → Type 0
IsFaultAt place IsCause fault = (why : ClusterCause) × (fault ≡ record { place = place; cause = why }) × IsCause why

-- the fault is that of an entry which holds a number
abbrev pub IsEntryFault : Members → NumberEntry → ClusterFault → Type 0
IsEntryFault top entry fault = IsFaultAt (place.Entry entry.name) (HasBadNumber top entry) fault

-- the text at `procs`, if there is one, is so short that its places are numbers of 32 bits
abbrev pub HasShortProcs : Members → Type 0
HasShortProcs top = (text : Bytes) → get_member (codes "procs") top ≡ Some (string text) → length text < 2 ^ 32

-- the homes that a table lists, by ascending keys
abbrev pub AreHomesOf : Members → ℕ → ℕ → List (Bytes × ℕ) → Type 0
AreHomesOf members version regions homes = (entries : List Entry) × AreEntries members entries × Pairwise (IsHome version regions) entries homes

-- the fault is that of the first bad home which a table lists
abbrev pub IsBadHomeOf : Members → ℕ → ℕ → ClusterFault → Type 0
IsBadHomeOf members version regions fault =
    (name : Bytes) × (why : ClusterCause) × (fault ≡ record { place = place.Home name; cause = why })
    × ((entries : List Entry) × AreEntries members entries
    × IsFirstFaulty (λ e. e.0) (λ e. (h : Bytes × ℕ) × IsHome version regions e h) (IsBadHome version regions) entries name why)

-- the rows that a table lists, by ascending keys
abbrev pub AreRowsOf : Members → List (Bytes × Value) → Type 0
AreRowsOf members rows = (entries : List Entry) × AreEntries members entries × Pairwise IsRow entries rows

-- the fault is that of the first bad row which a table lists
abbrev pub IsBadRowOf : Members → ClusterFault → Type 0
IsBadRowOf members fault =
    (name : Bytes) × (why : ClusterCause) × (fault ≡ record { place = place.Row name; cause = why })
    × ((entries : List Entry) × AreEntries members entries
    × IsFirstFaulty (λ e. e.0) (λ e. (r : Bytes × Value) × IsRow e r) IsBadRow entries name why)
