-- What the parts of the program answer.
--
-- Scaffolding: the top call is made of steps (a file, a cluster, a workload, the events; then the text that is written), and
-- only the contracts of these cite this. Read next: Causes, for what a caller is promised.
use Rattle.std.specs.Prelude.{◌≡◌, ℕ, ◌<◌, ◌≤◌, ◌⊎◌, List, length, Result, Ok, Err, Vec, IfOk}
use Rattle.dt_access.specs.Clash.{Bytes}
use Rattle.dt_text.specs.Lines.{lines_of}
use Rattle.dt_outside.specs.Faults.{Rose}
use Rattle.dt_outside.specs.Folder.{FolderView}
use Rattle.dt_outside.specs.Sink.{SinkView, Adds, AddsPrefix}
use Rattle.dt_events.specs.declared.Event.{Event}
use Rattle.dt_events.specs.Events.{FirstWithoutForm}
use Rattle.dt_cluster.specs.declared.Cluster.{Cluster}
use Rattle.dt_workload.specs.declared.Workload.{Workload}
use Rattle.dt_command.specs.declared.status.Status.{Status}
use Rattle.dt_command.specs.declared.status.Status.TheVariants.{Done, NoMemory, BadWords, CannotRead, BadCluster, BadWorkload, BadEvents, CannotWrite}
use Rattle.dt_command.specs.declared.status.EventsCause.{EventsCause}
use Rattle.dt_command.specs.declared.status.EventsCause.TheVariants.{TooLong, Form, Rule}
use Rattle.dt_session.specs.Run.{AreLegal}
use Rattle.dt_report.specs.declared.Report.{Report}
use Rattle.dt_report.specs.Report.{report_text}
use Rattle.dt_gen.specs.Summary.{summary_of}
use Rattle.dt_world.specs.WorldReport.{report_of, IsToldBy}
use Rattle.dt_world.specs.declared.StepError.{StepError}
use Rattle.dt_world.specs.declared.StepError.TheVariants.{Illegal}
use Rattle.dt_world.specs.declared.StepError.TheVariants as step
use Rattle.dt_command.specs.Tasks.{Task, Big, AreAForm, AskFor, IsClusterFile}
use Rattle.dt_command.specs.TaskFiles.{HasCluster, HasFile, file_limit}
use Rattle.dt_command.specs.Headline.{AreOfARun, IsDone}
use Rattle.dt_command.specs.Causes.{AreBadCluster, AreBadWorkload, CanBeDone, CouldNotRead, HasBadCluster, HasBadEvents, HasBadWorkload, IsFirstIllegal, WasMissed}

-- what loads leave as it was: which files are reported; and the count of faults does not fall
pub record KeepsFiles (before after : FolderView) : Type 0 where
  pub told : after.told ≡ before.told
  pub later : before.faults ≤ after.faults

-- why a cluster's file was refused, by what is seen of the folder before its loading and now
abbrev pub IsFileRefusal : Bytes → FolderView → FolderView → Status → Type 0
IsFileRefusal name before now NoMemory = Unit {0}
IsFileRefusal name before now (BadCluster fault) = HasFile before.told name (AreBadCluster fault)
IsFileRefusal name before now (CannotRead number) = (number ≡ 2) × WasMissed before now name
IsFileRefusal name before now status = ⊥

-- why a cluster was refused
abbrev pub IsClusterRefusal : Bytes → FolderView → FolderView → Status → Type 0
IsClusterRefusal word before now NoMemory = Unit {0}
IsClusterRefusal word before now (BadCluster fault) = IsClusterFile word × HasFile before.told word (AreBadCluster fault)
IsClusterRefusal word before now (CannotRead number) = (number ≡ 2) × IsClusterFile word × WasMissed before now word
IsClusterRefusal word before now status = ⊥

-- why a workload's file was refused
abbrev pub IsWorkloadRefusal : Cluster → Bytes → FolderView → FolderView → Status → Type 0
IsWorkloadRefusal cluster name before now NoMemory = Unit {0}
IsWorkloadRefusal cluster name before now (BadWorkload line cause) = HasFile before.told name (AreBadWorkload cluster line cause)
IsWorkloadRefusal cluster name before now (CannotRead number) = (number ≡ 3) × WasMissed before now name
IsWorkloadRefusal cluster name before now status = ⊥

-- why a cluster or a workload for it was refused, by the word of the cluster and the name of the workload's file
abbrev pub IsLoadRefusal : Bytes → Bytes → FolderView → FolderView → Status → Type 0
IsLoadRefusal word name before now NoMemory = Unit {0}
IsLoadRefusal word name before now (BadCluster fault) = IsClusterFile word × HasFile before.told word (AreBadCluster fault)
IsLoadRefusal word name before now (BadWorkload line cause) =
    (cluster : Cluster) × HasCluster before.told word cluster × HasFile before.told name (AreBadWorkload cluster line cause)
IsLoadRefusal word name before now (CannotRead number) =
    ((number ≡ 2) × IsClusterFile word × WasMissed before now word)
    ⊎ ((number ≡ 3) × (cluster : Cluster) × HasCluster before.told word cluster × WasMissed before now name)
IsLoadRefusal word name before now status = ⊥

-- a fault in the form of an events' file
abbrev pub AreMalformed : ℕ → EventsCause → Bytes → Type 0
AreMalformed line TooLong bytes = (line ≡ 0) × (file_limit < length bytes)
AreMalformed line Form bytes = (length bytes ≤ file_limit) × FirstWithoutForm (lines_of bytes) line
AreMalformed line (Rule n) bytes = ⊥

-- why an events' file was refused
abbrev pub IsEventsRefusal : Bytes → FolderView → FolderView → Status → Type 0
IsEventsRefusal name before now NoMemory = Unit {0}
IsEventsRefusal name before now (BadEvents line cause) = HasFile before.told name (AreMalformed line cause)
IsEventsRefusal name before now (CannotRead number) = (number ≡ 4) × WasMissed before now name
IsEventsRefusal name before now status = ⊥

-- why events were refused that have their form
abbrev pub IsStepRefusal : Cluster → Workload → List (ℕ × Event) → Status → Type 0
IsStepRefusal cluster workload events NoMemory = Unit {0}
IsStepRefusal cluster workload events (BadEvents line (Rule n)) = IsFirstIllegal cluster workload events line n
IsStepRefusal cluster workload events status = ⊥

-- the status of an event that was not made
abbrev pub refusal_of : ℕ → StepError → Status
refusal_of line (Illegal rule) = BadEvents line (Rule rule)
refusal_of line (step.NoMemory) = NoMemory

-- the report of some events that a run of the workload makes
pub record IsReportOfRun (cluster : Cluster) (workload : Workload) (report : Report) : Type 0 where
  pub legal : AreLegal cluster workload report.events
  pub run : AreOfARun cluster workload report.events
  pub report_is : report ≡ report_of cluster workload report.events

-- the text of such a report, which tells of no other events than those of this report
pub record IsTextOfRun (cluster : Cluster) (workload : Workload) (text : Bytes) : Type 0 where
  pub report : Report
  pub told : IsReportOfRun cluster workload report
  pub text_is : text ≡ report_text report
  pub tells : IsToldBy text report.events

-- the summary of such a report, for a workload of n calls
pub record IsSummaryOfRun (cluster : Cluster) (workload : Workload) (calls : ℕ) (text : Bytes) : Type 0 where
  pub report : Report
  pub told : IsReportOfRun cluster workload report
  pub text_is : text ≡ summary_of calls report

-- why a task has no text
abbrev pub IsRefusal : Task → FolderView → FolderView → Status → Type 0
IsRefusal task before now NoMemory = Unit {0}
IsRefusal task before now (BadCluster fault) = HasBadCluster before.told task fault
IsRefusal task before now (BadWorkload line cause) = HasBadWorkload before.told task line cause
IsRefusal task before now (BadEvents line cause) = HasBadEvents before.told task line cause
IsRefusal task before now (CannotRead word) = CouldNotRead task before now word
IsRefusal task before now status = ⊥

module _ {F A : Type 0} (seen : F → FolderView) (files files_after : F) (text : Result (Vec ℕ A) Status) where
  -- the text that a task asks for, or why there is none
  pub record IsTextOf (task : Task) : Type 0 where
    pub done : IfOk text (λ t. IsDone (seen files).told task (λ report. t.items ≡ report))
    pub can : IfOk text (λ _. CanBeDone (seen files).told task)
    pub refused : (status : Status) → text ≡ Err status → IsRefusal task (seen files) (seen files_after) status
    pub unloaded : (size : Bytes) → task ≡ Big size → files_after ≡ files
    pub same_told : (seen files_after).told ≡ (seen files).told

  -- there is none, since the words ask for nothing, and nothing was loaded
  pub record HasNoTask (words : List Bytes) : Type 0 where
    pub none : ¬ AreAForm words
    pub refused : text ≡ Err BadWords
    pub unread : files_after ≡ files

  -- the text that the words ask for, or why there is none
  abbrev pub IsAskedFor : List Bytes → Type 0
  IsAskedFor words = HasNoTask words ⊎ AskFor words IsTextOf

-- how a call ends: a text is written, as far as the output takes it; and why there is none is passed on
module _ {O A : Type 0} (shown : O → SinkView) (out out_after : O) where
  abbrev pub EndsBy : Result (Vec ℕ A) Status → Status → Type 0
  EndsBy (Ok text) Done = Adds (shown out).held (shown out_after).held text.items
  EndsBy (Ok text) CannotWrite = AddsPrefix (shown out).held (shown out_after).held text.items × Rose (shown out).faults (shown out_after).faults
  EndsBy (Ok text) status = ⊥
  EndsBy (Err why) status = (status ≡ why) × (out_after ≡ out)
