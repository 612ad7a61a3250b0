-- Why the program refuses.
--
-- Each refusal has one cause, and names the first fault in the order of the work: the words, the cluster, the workload, the
-- events, each of which must be right before the next is looked at. So of all statuses the words and the files call for
-- one, which `IsDue` gives. Read next: Answers, for all that a call promises.
use Rattle.std.specs.Prelude.{◌≡◌, ℕ, ◌<◌, ◌≤◌, ◌⊎◌, List, ◌∷◌, ◌++◌, length, Option, IsSomeAnd}
use Rattle.dt_access.specs.Clash.{Bytes}
use Rattle.dt_text.specs.Lines.{lines_of}
use Rattle.dt_outside.specs.Faults.{Rose}
use Rattle.dt_outside.specs.Folder.{Files, FolderView, MissedLast}
use Rattle.dt_events.specs.declared.Event.{Event}
use Rattle.dt_events.specs.Events.{FirstWithoutForm}
use Rattle.dt_cluster.specs.declared.Cluster.{Cluster}
use Rattle.dt_cluster_file.specs.declared.ClusterFault.{ClusterFault}
use Rattle.dt_cluster_file.specs.declared.error.ClusterCause.TheVariants as cluster_cause
use Rattle.dt_cluster_file.specs.declared.error.ClusterPlace.TheVariants.{Whole}
use Rattle.dt_cluster_file.specs.File.{IsClusterFault}
use Rattle.dt_workload.specs.declared.Workload.{Workload}
use Rattle.dt_workload.specs.declared.WorkloadCause.{WorkloadCause}
use Rattle.dt_workload.specs.declared.error.WorkloadCause.TheVariants as workload_cause
use Rattle.dt_workload.specs.File.{IsWorkloadFault}
use Rattle.dt_session.specs.Step.{IsLegal, rule_of}
use Rattle.dt_session.specs.Run.{AreLegal, world_after}
use Rattle.dt_command.specs.declared.status.Status.{Status}
use Rattle.dt_command.specs.declared.status.Status.TheVariants.{Done, BadWords, BadCluster, BadWorkload, BadEvents}
use Rattle.dt_command.specs.declared.status.EventsCause.{EventsCause}
use Rattle.dt_command.specs.declared.status.EventsCause.TheVariants.{TooLong, Form, Rule}
use Rattle.dt_command.specs.Tasks.{Task, Replay, Run, Big, AreAForm, AskFor, IsClusterFile, cluster_word, workload_word, events_word}
use Rattle.dt_command.specs.TaskFiles.{HasFile, HoldEvents, NamesThis, Loaded, HasEvents, file_limit, unnumbered}

-- what is wrong with the bytes of a cluster's file: they are too long, or they are no cluster, and this is their first fault
abbrev pub AreBadCluster : ClusterFault → Bytes → Type 0
AreBadCluster fault bytes =
    ((fault ≡ record { place = Whole; cause = cluster_cause.TooLong }) × (file_limit < length bytes))
    ⊎ ((length bytes ≤ file_limit) × IsClusterFault bytes fault)

-- the task's word for a cluster is the name of a file, and that file has this fault
abbrev pub HasBadCluster : Option Files → Task → ClusterFault → Type 0
HasBadCluster told task fault = IsSomeAnd (cluster_word task) (λ word. IsClusterFile word × HasFile told word (AreBadCluster fault))

-- what is wrong with the bytes of a workload's file: they are too long, or they are no workload for the cluster, and this line
-- is the first faulty one
abbrev pub AreBadWorkload : Cluster → ℕ → WorkloadCause → Bytes → Type 0
AreBadWorkload cluster line cause bytes =
    ((line ≡ 0) × (cause ≡ workload_cause.TooLong) × (file_limit < length bytes))
    ⊎ ((length bytes ≤ file_limit) × IsWorkloadFault cluster bytes line cause)

-- the task has its cluster, and its workload's file has this fault
abbrev pub HasBadWorkload : Option Files → Task → ℕ → WorkloadCause → Type 0
HasBadWorkload told task line cause =
    (cluster : Cluster) × NamesThis told task cluster
    × IsSomeAnd (workload_word task) (λ name. HasFile told name (AreBadWorkload cluster line cause))

-- the event of this line is the first that is not legal after those before it, by the rule of this number
pub record IsFirstIllegal (cluster : Cluster) (workload : Workload) (events : List (ℕ × Event)) (line rule : ℕ) : Type 0 where
  pub before : List (ℕ × Event)
  pub event : Event
  pub after : List (ℕ × Event)
  pub cut : events ≡ before ++ (line, event) ∷ after
  pub legal : AreLegal cluster workload (unnumbered before)
  pub illegal : ¬ IsLegal cluster workload (world_after cluster workload (unnumbered before)) event
  pub number : rule ≡ rule_of event

-- what is wrong with the bytes of an events' file: they are too long; or a line is the first that has no event's form; or
-- all lines have one, and an event is the first that is not legal after those before it
abbrev pub AreBadEvents : Cluster → Workload → ℕ → EventsCause → Bytes → Type 0
AreBadEvents cluster workload line TooLong bytes = (line ≡ 0) × (file_limit < length bytes)
AreBadEvents cluster workload line Form bytes = (length bytes ≤ file_limit) × FirstWithoutForm (lines_of bytes) line
AreBadEvents cluster workload line (Rule n) bytes =
    (events : List (ℕ × Event)) × HoldEvents events bytes × IsFirstIllegal cluster workload events line n

-- the task has its cluster and its workload, and its events' file has this fault
abbrev pub HasBadEvents : Option Files → Task → ℕ → EventsCause → Type 0
HasBadEvents told task line cause =
    (cluster : Cluster) × (workload : Workload) × Loaded told task cluster workload
    × IsSomeAnd (events_word task) (λ name. HasFile told name (AreBadEvents cluster workload line cause))

-- a load failed in this call, and the most recent one that did is that of this name, if the folder reports it
pub record WasMissed (before now : FolderView) (name : Bytes) : Type 0 where
  pub rose : Rose before.faults now.faults
  pub newest : MissedLast now name

-- a load failed in this call, and it was that of word 2, of a task whose word for a cluster names a file; or that of word 3, of
-- a task that has its cluster; or that of word 4, of one that has its cluster and its workload
abbrev pub CouldNotRead : Task → FolderView → FolderView → ℕ → Type 0
CouldNotRead task before now word =
    ((word ≡ 2) × IsSomeAnd (cluster_word task) (λ name. IsClusterFile name × WasMissed before now name))
    ⊎ ((word ≡ 3) × (cluster : Cluster) × NamesThis before.told task cluster
    × IsSomeAnd (workload_word task) (WasMissed before now))
    ⊎ ((word ≡ 4) × (cluster : Cluster) × (workload : Workload) × Loaded before.told task cluster workload
    × IsSomeAnd (events_word task) (WasMissed before now))

-- a run that can be done: its cluster and its workload are as they should be
pub record IsRunnable (told : Option Files) (task : Task) : Type 0 where
  pub cluster : Cluster
  pub workload : Workload
  pub loaded : Loaded told task cluster workload

-- a replay that can be done: its cluster and its workload are as they should be, and so is its events' file, whose events are
-- legal
pub record IsReplayable (told : Option Files) (task : Task) : Type 0 where
  pub runnable : IsRunnable told task
  pub events : List (ℕ × Event)
  pub events_file : HasEvents told task events
  pub legal : AreLegal runnable.cluster runnable.workload (unnumbered events)

-- nothing that a task takes from files stands in its way; a big run takes nothing from them
abbrev pub CanBeDone : Option Files → Task → Type 0
CanBeDone told (Replay cluster workload events) = IsReplayable told (Replay cluster workload events)
CanBeDone told (Run cluster workload) = IsRunnable told (Run cluster workload)
CanBeDone told (Big size) = Unit {0}

-- the status that a task and the files call for, where no device fails
abbrev pub CallsFor : Option Files → Task → Status → Type 0
CallsFor told task Done = CanBeDone told task
CallsFor told task (BadCluster fault) = HasBadCluster told task fault
CallsFor told task (BadWorkload line cause) = HasBadWorkload told task line cause
CallsFor told task (BadEvents line cause) = HasBadEvents told task line cause
CallsFor told task status = ⊥

-- the status that the words and the files call for, where no device fails
abbrev pub IsDue : Option Files → List Bytes → Status → Type 0
IsDue told words status = ((status ≡ BadWords) × ¬ AreAForm words) ⊎ AskFor words (λ task. CallsFor told task status)
