-- What a task's words and files stand for.
--
-- A file is taken for its bytes, if the folder reports them; else for some bytes. They hold a cluster, a workload for it, or
-- events, each by the grammar of its own crate, and no file may be longer than 16 MiB. Read next: Headline, for what is
-- reported of them.
use Rattle.std.specs.Prelude.{◌≡◌, ℕ, ◌≤◌, ◌⊎◌, List, map, length, Option, Some, IfSome, IsSomeAnd}
use Rattle.dt_access.specs.Clash.{Bytes}
use Rattle.dt_outside.specs.Folder.{Files}
use Rattle.dt_events.specs.declared.Event.{Event}
use Rattle.dt_events.specs.Events.{AreEvents}
use Rattle.dt_cluster.specs.declared.Cluster.{Cluster}
use Rattle.dt_cluster.specs.Builtin.{builtin_cluster}
use Rattle.dt_cluster_file.specs.File.{IsCluster}
use Rattle.dt_workload.specs.declared.Workload.{Workload}
use Rattle.dt_workload.specs.File.{IsWorkload}
use Rattle.dt_command.specs.Tasks.{Task, IsBuiltin, IsClusterFile, builtin_word, cluster_word, workload_word, events_word}

-- no file may be longer than this: 16 MiB
abbrev pub file_limit : ℕ
file_limit = 16777216

-- some bytes have P, and if the folder reports its files, they are those of the file of this name
abbrev pub HasFile : Option Files → Bytes → (Bytes → Type 0) → Type 0
HasFile told name P = (bytes : Bytes) × IfSome told (λ files. files name ≡ Some bytes) × P bytes

-- these bytes hold a cluster: they are not too long, and are a cluster file of this cluster
pub record HoldCluster (cluster : Cluster) (bytes : Bytes) : Type 0 where
  pub short : length bytes ≤ file_limit
  pub form : IsCluster bytes cluster

-- these bytes hold a workload for the cluster
pub record HoldWorkload (cluster : Cluster) (workload : Workload) (bytes : Bytes) : Type 0 where
  pub short : length bytes ≤ file_limit
  pub form : IsWorkload cluster bytes workload

-- these bytes hold events, each with the number of its line
pub record HoldEvents (events : List (ℕ × Event)) (bytes : Bytes) : Type 0 where
  pub short : length bytes ≤ file_limit
  pub form : AreEvents bytes events

-- events without the numbers of their lines
abbrev pub unnumbered : List (ℕ × Event) → List Event
unnumbered events = map (λ event. event.1) events

-- the word names this cluster: a built-in one, or that of its file
abbrev pub HasCluster : Option Files → Bytes → Cluster → Type 0
HasCluster told word cluster =
    ((regions : ℕ) × IsBuiltin regions × (word ≡ builtin_word regions) × (cluster ≡ builtin_cluster regions))
    ⊎ (IsClusterFile word × HasFile told word (HoldCluster cluster))

-- the task has a word for a cluster, and that names this one
abbrev pub NamesThis : Option Files → Task → Cluster → Type 0
NamesThis told task cluster = IsSomeAnd (cluster_word task) (λ word. HasCluster told word cluster)

-- what is loaded for a task: the cluster that it names, and the workload of its file
pub record Loaded (told : Option Files) (task : Task) (cluster : Cluster) (workload : Workload) : Type 0 where
  pub cluster_word : NamesThis told task cluster
  pub workload_file : IsSomeAnd (workload_word task) (λ name. HasFile told name (HoldWorkload cluster workload))

-- the task has a word for a file of events, and these are the events there
abbrev pub HasEvents : Option Files → Task → List (ℕ × Event) → Type 0
HasEvents told task events = IsSomeAnd (events_word task) (λ name. HasFile told name (HoldEvents events))
