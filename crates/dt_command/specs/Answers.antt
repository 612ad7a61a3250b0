-- What a call of the program promises.
--
-- `Comes` says that each status occurs only for its cause, that the status which the words and the files call for comes where no
-- device fails, and what is touched of the files and of the output. `IsTold` says which line reports a status. The top call
-- ensures both, whatever the task. Read next: Statuses, for the exit numbers and the lines.
use Rattle.std.specs.Prelude.{◌≡◌, ◌≢◌, ℕ, ◌⊎◌, List, IsSome}
use Rattle.dt_access.specs.Clash.{Bytes}
use Rattle.dt_outside.specs.Faults.{Rose}
use Rattle.dt_outside.specs.Folder.{FolderView}
use Rattle.dt_outside.specs.Sink.{SinkView, Adds, AddsPrefix}
use Rattle.dt_cluster_file.specs.declared.ClusterFault.{ClusterFault}
use Rattle.dt_workload.specs.declared.WorkloadCause.{WorkloadCause}
use Rattle.dt_command.specs.declared.status.Status.{Status}
use Rattle.dt_command.specs.declared.status.Status.TheVariants.{Done, NoMemory, BadWords, CannotRead, BadCluster, BadWorkload, BadEvents, CannotWrite}
use Rattle.dt_command.specs.declared.status.EventsCause.{EventsCause}
use Rattle.dt_command.specs.Tasks.{Big, Asks, AreAForm, AskFor}
use Rattle.dt_command.specs.Headline.{IsDone}
use Rattle.dt_command.specs.Causes.{CouldNotRead, HasBadCluster, HasBadEvents, HasBadWorkload, IsDue}
use Rattle.dt_command.specs.Statuses.{fault_line}

module _ {F O : Type 0} (words : List Bytes) (seen : F → FolderView) (files files_after : F) (shown : O → SinkView) (out out_after : O) where
  -- how a status comes, from the words, the folder and the output before the call and after it
  pub record Comes (status : Status) : Type 0 where
    -- The headline: the task is done, and its whole report follows what the output held.
    pub done : status ≡ Done → AskFor words (λ task. IsDone (seen files).told task (Adds (shown out).held (shown out_after).held))
    -- Each refusal occurs only for its cause; the causes are tried in this order.
    pub bad_words : status ≡ BadWords → ¬ AreAForm words
    pub bad_cluster : (fault : ClusterFault) → status ≡ BadCluster fault → AskFor words (λ task. HasBadCluster (seen files).told task fault)
    pub bad_workload : (line : ℕ) (cause : WorkloadCause) → status ≡ BadWorkload line cause → AskFor words (λ task. HasBadWorkload (seen files).told task line cause)
    pub bad_events : (line : ℕ) (cause : EventsCause) → status ≡ BadEvents line cause → AskFor words (λ task. HasBadEvents (seen files).told task line cause)
    pub cannot_read : (word : ℕ) → status ≡ CannotRead word → AskFor words (λ task. CouldNotRead task (seen files) (seen files_after) word)
    -- If the report could not be written, some first bytes of it follow what the output held.
    pub cannot_write : status ≡ CannotWrite → Rose (shown out).faults (shown out_after).faults
        × AskFor words (λ task. IsDone (seen files).told task (AddsPrefix (shown out).held (shown out_after).held))
    -- If the files are reported and no device failed, the status is the one that they call for, unless memory runs out.
    pub complete : (due : Status) → IsSome (seen files).told → IsDue (seen files).told words due →
        ¬ Rose (seen files).faults (seen files_after).faults → ¬ Rose (shown out).faults (shown out_after).faults →
        (status ≡ due) ⊎ (status ≡ NoMemory)
    -- Neither for words of no form nor for a big run is any file loaded.
    pub unread : status ≡ BadWords → files_after ≡ files
    pub unloaded : (size : Bytes) → Asks words (Big size) → files_after ≡ files
    -- Nothing is written to the output but the report, and no file changes.
    pub out_same : status ≢ Done → status ≢ CannotWrite → out_after ≡ out
    pub files_same : (seen files_after).told ≡ (seen files).told

-- how a status is reported: `err` gets its line, or if it failed some first bytes of it; nothing after `Done`
pub record IsTold {E : Type 0} (seen : E → SinkView) (err err_after : E) (status : Status) : Type 0 where
  pub told : ¬ Rose (seen err).faults (seen err_after).faults → Adds (seen err).held (seen err_after).held (fault_line status)
  pub told_prefix : AddsPrefix (seen err).held (seen err_after).held (fault_line status)
  pub quiet : status ≡ Done → err_after ≡ err
