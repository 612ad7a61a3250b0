-- What a cluster file is, and what fault is reported for a file that is not one. The faults have an order: unknown names, the
-- numbers, the procedures, the homes, the rows; the first fault in that order is reported, so a file has at most one
-- (`Laws`). The entries are in `Numbers` and `Rows`. Read next: `Laws`, and `Valid` of `dt_cluster` for what every
-- cluster that is read keeps.
use Rattle.std.specs.Prelude.{◌≡◌, ◌⊎◌, ℕ, List, [], ◌∷◌, Option, Some, None, Ok, Err, codes}
use Rattle.dt_lists.specs.Lists.{AllIn, Has, Pairwise}
use Rattle.dt_text.specs.declared.value.Value.{Value}
use Rattle.dt_proc.specs.Tree.{ProcTree}
use Rattle.dt_proc.specs.Builtin.{builtin_procs}
use Rattle.dt_proc.specs.Outcome.{Outcome}
use Rattle.dt_proc.specs.declared.error.ProcError.{ProcError}
use Rattle.dt_proc.specs.declared.error.ProcError.TheVariants as refused
use Rattle.toml.specs.Data.{Data, string, Members, get_member}
use Rattle.dt_text.specs.Texts.{Bytes}
use Rattle.dt_cluster_file.specs.Document.{Entry, IsDocument, AreEntries, AreEntriesAt, IsNoTable, IsFirstFaulty}
use Rattle.dt_cluster_file.specs.Numbers.{NumberEntry, regions_entry, version_entry, workers_entry, tries_entry, drop_entry, repeat_entry, HasNumber, HasBadNumber}
use Rattle.dt_cluster_file.specs.Rows.{IsHome, IsBadHome, IsRow, IsBadRow}
use Rattle.dt_cluster.specs.declared.cluster.Cluster.{Cluster}
use Rattle.dt_cluster_file.specs.declared.numbers.Numbers.{Numbers}
use Rattle.dt_cluster_file.specs.declared.error.ClusterCause.{ClusterCause}
use Rattle.dt_cluster_file.specs.declared.error.ClusterCause.TheVariants as cause
use Rattle.dt_cluster_file.specs.declared.error.ClusterPlace.TheVariants as place
use Rattle.dt_cluster_file.specs.declared.error.ClusterFault.{ClusterFault}
use Rattle.dt_cluster_file.specs.declared.error.ClusterError.{ClusterError}
use Rattle.dt_cluster_file.specs.declared.error.ClusterError.TheVariants.{Fault, NoMemory}

-- the names that may stand at the top of a cluster file
abbrev pub known_names : List Bytes
known_names =
    codes "regions" ∷ codes "version" ∷ codes "workers" ∷ codes "tries" ∷ codes "drop" ∷ codes "repeat" ∷ codes "procs" ∷ codes "homes" ∷ codes "rows" ∷ []

-- the entry has a name that may stand at the top
abbrev pub IsKnown : Entry → Type 0
IsKnown entry = Has known_names entry.0

-- each name at the top is known
abbrev pub AreKnown : Members → Type 0
AreKnown top = (entries : List Entry) × AreEntries top entries × AllIn IsKnown entries

-- the fault of a name that is unknown: the first such name in byte order is reported
abbrev pub IsUnknownFault : Members → ClusterFault → Type 0
IsUnknownFault top fault =
    (name : Bytes) × (fault ≡ record { place = place.Entry name; cause = cause.Unknown })
    × ((entries : List Entry) × AreEntries top entries
    × IsFirstFaulty (λ e. e.0) IsKnown (λ e c. (c ≡ cause.Unknown) × ¬ (IsKnown e)) entries name cause.Unknown)

-- the numbers of a cluster
abbrev pub numbers_of : Cluster → Numbers
numbers_of cluster = record {
  regions = cluster.regions;
  version = cluster.version;
  workers = cluster.workers;
  tries = cluster.tries;
  drop = cluster.drop;
  repeat = cluster.repeat;
}

-- the numbers that a document gives, each by the entry of its name
abbrev pub HasNumbers : Members → Numbers → Type 0
HasNumbers top numbers =
    HasNumber top regions_entry numbers.regions × HasNumber top version_entry numbers.version × HasNumber top workers_entry numbers.workers
    × HasNumber top tries_entry numbers.tries × HasNumber top drop_entry numbers.drop × HasNumber top repeat_entry numbers.repeat

-- the entries that hold numbers, in the order in which their faults are reported
abbrev pub number_entries : List NumberEntry
number_entries = regions_entry ∷ version_entry ∷ workers_entry ∷ tries_entry ∷ drop_entry ∷ repeat_entry ∷ []

-- the fault of a number: that of the first number which has one
abbrev pub IsNumberFault : Members → ClusterFault → Type 0
IsNumberFault top fault =
    (name : Bytes) × (why : ClusterCause) × (fault ≡ record { place = place.Entry name; cause = why })
    × IsFirstFaulty (λ e. e.name) (λ e. (n : ℕ) × HasNumber top e n) (HasBadNumber top) number_entries name why

-- the procedures that a document gives: those of the text at `procs`, and the built-in ones where there is none
abbrev pub GivesProcs : Option Data → List ProcTree → Type 0
GivesProcs None procs = procs ≡ builtin_procs
GivesProcs (Some (string text)) procs = Outcome text (Ok procs)
GivesProcs (Some other) procs = ⊥

-- a fault in the text of procedures as one of the file
abbrev pub IsToldAs : ProcError → ClusterFault → Type 0
IsToldAs (refused.Syntax at) fault = fault ≡ record { place = place.Procs at; cause = cause.Syntax }
IsToldAs (refused.Unknown at) fault = fault ≡ record { place = place.Procs at; cause = cause.UnknownName }
IsToldAs (refused.Kind at) fault = fault ≡ record { place = place.Procs at; cause = cause.Kind }
IsToldAs (refused.Twice at) fault = fault ≡ record { place = place.Procs at; cause = cause.Twice }
IsToldAs (refused.TooMany at) fault = fault ≡ record { place = place.Procs at; cause = cause.TooMany }
IsToldAs refused.NoMemory fault = ⊥

-- the fault of `procs`: it is no string, or its text has a fault
abbrev pub IsProcsFaultAt : Option Data → ClusterFault → Type 0
IsProcsFaultAt None fault = ⊥
IsProcsFaultAt (Some (string text)) fault = (e : ProcError) × Outcome text (Err e) × IsToldAs e fault
IsProcsFaultAt (Some other) fault = fault ≡ record { place = place.Entry (codes "procs"); cause = cause.Kind }

-- these are the procedures that a document gives
abbrev pub HasProcs : Members → List ProcTree → Type 0
HasProcs top procs = GivesProcs (get_member (codes "procs") top) procs

-- this is the fault of the procedures that a document gives
abbrev pub IsProcsFault : Members → ClusterFault → Type 0
IsProcsFault top fault = IsProcsFaultAt (get_member (codes "procs") top) fault

-- the homes that a document lists, by ascending keys
abbrev pub HasHomes : Members → ℕ → ℕ → List (Bytes × ℕ) → Type 0
HasHomes top version regions homes =
    (entries : List Entry) × AreEntriesAt (get_member (codes "homes") top) entries × Pairwise (IsHome version regions) entries homes

-- the fault of `homes`: it is no table, or the first of its names that is at fault
abbrev pub IsHomesFault : Members → ℕ → ℕ → ClusterFault → Type 0
IsHomesFault top version regions fault =
    (IsNoTable (get_member (codes "homes") top) × (fault ≡ record { place = place.Entry (codes "homes"); cause = cause.Kind }))
    ⊎ ((name : Bytes) × (why : ClusterCause) × (fault ≡ record { place = place.Home name; cause = why })
    × ((entries : List Entry) × AreEntriesAt (get_member (codes "homes") top) entries
    × IsFirstFaulty (λ e. e.0) (λ e. (h : Bytes × ℕ) × IsHome version regions e h) (IsBadHome version regions) entries name why))

-- the rows that a document lists, by ascending keys
abbrev pub HasRows : Members → List (Bytes × Value) → Type 0
HasRows top rows =
    (entries : List Entry) × AreEntriesAt (get_member (codes "rows") top) entries × Pairwise IsRow entries rows

-- the fault of `rows`: it is no table, or the first of its names that is at fault
abbrev pub IsRowsFault : Members → ClusterFault → Type 0
IsRowsFault top fault =
    (IsNoTable (get_member (codes "rows") top) × (fault ≡ record { place = place.Entry (codes "rows"); cause = cause.Kind }))
    ⊎ ((name : Bytes) × (why : ClusterCause) × (fault ≡ record { place = place.Row name; cause = why })
    × ((entries : List Entry) × AreEntriesAt (get_member (codes "rows") top) entries
    × IsFirstFaulty (λ e. e.0) (λ e. (r : Bytes × Value) × IsRow e r) IsBadRow entries name why))

-- a document of TOML is this cluster: its names are known, and each entry gives what the cluster has
pub record IsClusterOf (top : Members) (cluster : Cluster) : Type 0 where
  pub known : AreKnown top
  pub numbers : HasNumbers top (numbers_of cluster)
  pub procs : HasProcs top cluster.procs
  pub homes : HasHomes top cluster.version cluster.regions cluster.homes
  pub rows : HasRows top cluster.rows

-- the first fault of a document: an unknown name; else that of a number; else that of `procs`; else that of `homes`; else that
-- of `rows`
abbrev pub IsFaultOf : Members → ClusterFault → Type 0
IsFaultOf top fault =
    IsUnknownFault top fault
    ⊎ (AreKnown top × (IsNumberFault top fault
    ⊎ ((numbers : Numbers) × HasNumbers top numbers × (IsProcsFault top fault
    ⊎ (((procs : List ProcTree) × HasProcs top procs) × (IsHomesFault top numbers.version numbers.regions fault
    ⊎ (((homes : List (Bytes × ℕ)) × HasHomes top numbers.version numbers.regions homes) × IsRowsFault top fault)))))))

-- the bytes are a cluster file of this cluster
abbrev pub IsCluster : Bytes → Cluster → Type 0
IsCluster bytes cluster = (top : Members) × IsDocument bytes top × IsClusterOf top cluster

-- the first fault of the bytes: they are no document, or the document has this fault. That a file is too long is reported by
-- whoever loads it
abbrev pub IsClusterFault : Bytes → ClusterFault → Type 0
IsClusterFault bytes fault =
    (((top : Members) → ¬ (IsDocument bytes top)) × (fault ≡ record { place = place.Whole; cause = cause.NotToml }))
    ⊎ ((top : Members) × IsDocument bytes top × IsFaultOf top fault)

-- an error reports a true fault, or that memory ran out
abbrev pub TellsFault : (ClusterFault → Type 0) → ClusterError → Type 0
TellsFault IsFault (Fault fault) = IsFault fault
TellsFault IsFault NoMemory = Unit {0}
