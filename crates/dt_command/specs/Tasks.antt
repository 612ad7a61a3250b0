-- What the program is asked to do.
--
-- The words of the command line, without the program's name, are those of a task, or a fault of the caller. Most tasks name a
-- cluster by their second word and the file of a workload by their third; what else there is differs from task to task.
-- So a new task is one case more here and in each definition by cases on tasks, and no other definition speaks of its words.
-- Read next: TaskFiles, for what the named files hold.
use Rattle.std.specs.Prelude.{◌≡◌, ◌≢◌, ℕ, ◌<◌, ◌≤◌, ◌⊎◌, List, [], ◌∷◌, ◌++◌, length, map, codes, String, string_bytes, slice_get, Option, Some, None}
use Rattle.std.specs.Fmt.{decimal}
use Rattle.dt_access.specs.Clash.{Bytes}

-- words of the command line, each as its bytes
abbrev pub word_bytes : {A : Type 0} → List (String A) → List Bytes
word_bytes words = map string_bytes words

-- a file's name: it has at least one byte
abbrev pub IsFileName : Bytes → Type 0
IsFileName word = 0 < length word

-- the word `:n`, by which the built-in cluster of n regions is named
abbrev pub builtin_word : ℕ → Bytes
builtin_word regions = codes ":" ++ decimal regions

-- there are built-in clusters of 1 to 8 regions
abbrev pub IsBuiltin : ℕ → Type 0
IsBuiltin regions = (1 ≤ regions) × (regions ≤ 8)

-- a word that is the name of a cluster's file: it does not begin with `:`
abbrev pub IsClusterFile : Bytes → Type 0
IsClusterFile word = IsFileName word × (slice_get word 0 ≢ Some 58)

-- a word that names a cluster: that of a built-in one, or the name of a file
abbrev pub NamesCluster : Bytes → Type 0
NamesCluster word = ((regions : ℕ) × IsBuiltin regions × (word ≡ builtin_word regions)) ⊎ IsClusterFile word

-- a word that is a number from 1 to 20000
abbrev pub IsSize : Bytes → Type 0
IsSize word = (n : ℕ) × (1 ≤ n) × (n ≤ 20000) × (word ≡ decimal n)

-- what the program may be asked to do: to replay the events of a file; to run a workload; to run a big workload of a size
pub data Task : Type 0 where
  Replay : (cluster workload events : Bytes) → Task
  Run : (cluster workload : Bytes) → Task
  Big : (size : Bytes) → Task

-- the words by which a task is asked for
abbrev pub task_words : Task → List Bytes
task_words (Replay cluster workload events) = codes "replay" ∷ cluster ∷ workload ∷ events ∷ []
task_words (Run cluster workload) = codes "run" ∷ cluster ∷ workload ∷ []
task_words (Big size) = codes "big" ∷ size ∷ []

-- each of its words is one of those that may stand in its place
abbrev pub IsTask : Task → Type 0
IsTask (Replay cluster workload events) = NamesCluster cluster × IsFileName workload × IsFileName events
IsTask (Run cluster workload) = NamesCluster cluster × IsFileName workload
IsTask (Big size) = IsSize size

-- the words ask for this task
pub record Asks (words : List Bytes) (task : Task) : Type 0 where
  pub form : words ≡ task_words task
  pub right : IsTask task

-- the words ask for some task, so they are of one of the forms
abbrev pub AreAForm : List Bytes → Type 0
AreAForm words = (task : Task) × Asks words task

-- the words ask for a task of which P holds; words ask for one task at most
abbrev pub AskFor : List Bytes → (Task → Type 0) → Type 0
AskFor words P = (task : Task) × Asks words task × P task

-- the word that names the task's cluster, if it has one
abbrev pub cluster_word : Task → Option Bytes
cluster_word (Replay cluster workload events) = Some cluster
cluster_word (Run cluster workload) = Some cluster
cluster_word (Big size) = None

-- the word that names the file of its workload
abbrev pub workload_word : Task → Option Bytes
workload_word (Replay cluster workload events) = Some workload
workload_word (Run cluster workload) = Some workload
workload_word (Big size) = None

-- the word that names the file of its events
abbrev pub events_word : Task → Option Bytes
events_word (Replay cluster workload events) = Some events
events_word (Run cluster workload) = None
events_word (Big size) = None

-- the task is done by threads
abbrev pub IsThreaded : Task → Type 0
IsThreaded (Replay cluster workload events) = ⊥
IsThreaded (Run cluster workload) = Unit {0}
IsThreaded (Big size) = Unit {0}

-- the words ask for a task that is done by threads
abbrev pub NeedsThreads : List Bytes → Type 0
NeedsThreads words = AskFor words IsThreaded
