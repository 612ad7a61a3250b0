-- The text that a task asks for, or why there is none: what is answered as a whole, from what its parts answered.
use Rattle.std.proofs.Common.{◌≡◌, ℕ, List, Option, Some, IsSomeAnd, Result, Ok, Err, IfOk, Vec, inl, inr, arith, refl, sym, subst, ◌∙◌}
use Rattle.dt_access.specs.Clash.{Bytes}
use Rattle.dt_outside.specs.Folder.{Files, FolderView}
use Rattle.dt_events.specs.declared.Event.{Event}
use Rattle.dt_cluster.specs.declared.Cluster.{Cluster}
use Rattle.dt_cluster.specs.Valid.{IsValidCluster}
use Rattle.dt_workload.specs.declared.Workload.{Workload}
use Rattle.dt_workload.specs.Valid.{IsValidWorkload}
use Rattle.dt_session.specs.Run.{AreLegal}
use Rattle.dt_report.specs.Report.{report_text}
use Rattle.dt_world.specs.WorldReport.{report_of, IsToldBy}
use Rattle.dt_agreement.specs.LegalRun.{IsLegalRun}
use Rattle.dt_agreement.proofs.Callers.{legal_agree}
use Rattle.dt_command.specs.declared.status.Status.{Status}
use Rattle.dt_command.specs.declared.status.Status.TheVariants.{NoMemory, CannotRead, BadCluster, BadWorkload, BadEvents}
use Rattle.dt_command.specs.declared.status.EventsCause.{EventsCause}
use Rattle.dt_command.specs.declared.status.EventsCause.TheVariants.{TooLong, Form, Rule}
use Rattle.dt_command.specs.Tasks.{Task, Replay, Run, Big, IsClusterFile, cluster_word, workload_word}
use Rattle.dt_command.specs.TaskFiles.{HasFile, HasCluster, HoldEvents, Loaded, unnumbered}
use Rattle.dt_command.specs.Headline.{Headline, HasGiven, IsDone}
use Rattle.dt_command.specs.Causes.{AreBadCluster, AreBadWorkload, AreBadEvents, CanBeDone, WasMissed}
use Rattle.dt_command.specs.RefusalCode.{IsFileRefusal, IsClusterRefusal, IsWorkloadRefusal, IsLoadRefusal, IsEventsRefusal, IsStepRefusal, IsRefusal, IsTextOf, AreMalformed, KeepsFiles}

-- what holds of a file's bytes, and what follows from it
file_more : (told : Option Files) (name : Bytes) (P Q : Bytes → Type 0) → ((bytes : Bytes) → P bytes → Q bytes) → HasFile told name P → HasFile told name Q
file_more told name P Q more (bytes, is, p) = (bytes, is, more bytes p)

-- one load after another
pub keeps_more : {a b c : FolderView} → KeepsFiles a b → KeepsFiles b c → KeepsFiles a c
keeps_more first then = let n = first.later in let m = then.later in record { told = then.told ∙ first.told; later = omega (arith, n, m) }

-- a load that failed after others
missed_later : (before loaded now : FolderView) (name : Bytes) → KeepsFiles before loaded → WasMissed loaded now name → WasMissed before now name
missed_later before loaded now name follows missed = record {
  rose = omega (arith, follows.later, missed.rose);
  newest = missed.newest;
}

-- an error that a `?` passes on as it is
pub passed_on : {T U : Type 0} (r : Result T Status) (s : Result U Status) (field made status : Status) → r ≡ Err field → s ≡ Err made → made ≡ field → s ≡ Err status → r ≡ Err status
passed_on r s field made status was is_made same is = cc

-- a cluster's file was refused, where the word is the name of a file
pub in_cluster_file : (name : Bytes) (before now : FolderView) (status : Status) → IsClusterFile name → IsFileRefusal name before now status → IsClusterRefusal name before now status
in_cluster_file name before now NoMemory right is = tt
in_cluster_file name before now (BadCluster fault) right is = (right, is)
in_cluster_file name before now (CannotRead number) right (two, missed) = (two, right, missed)
in_cluster_file name before now status right is = absurd is

-- a cluster was refused, or a workload for one
module _ (word name : Bytes) (before : FolderView) where
  pub no_cluster : (now : FolderView) (status : Status) → IsClusterRefusal word before now status → IsLoadRefusal word name before now status
  no_cluster now NoMemory is = tt
  no_cluster now (BadCluster fault) is = is
  no_cluster now (CannotRead number) is = inl is
  no_cluster now status is = absurd is

  pub no_workload : (cluster : Cluster) → HasCluster before.told word cluster → (loaded now : FolderView) (status : Status) → KeepsFiles before loaded
      → IsWorkloadRefusal cluster name loaded now status → IsLoadRefusal word name before now status
  no_workload cluster names loaded now NoMemory follows is = tt
  no_workload cluster names loaded now (BadWorkload line cause) follows is = (cluster, names, subst (λ told. HasFile told name (AreBadWorkload cluster line cause)) follows.told is)
  no_workload cluster names loaded now (CannotRead number) follows (three, missed) = inr (three, cluster, names, missed_later before loaded now name follows missed)
  no_workload cluster names loaded now status follows is = absurd is

-- so was a task that names them
pub not_loaded : (task : Task) (word name : Bytes) → Some word ≡ cluster_word task → Some name ≡ workload_word task → (before now : FolderView) (status : Status)
    → IsLoadRefusal word name before now status → IsRefusal task before now status
not_loaded task word name first second before now NoMemory is = tt
not_loaded task word name first second before now (BadCluster fault) is =
    subst (λ o. IsSomeAnd o (λ w. IsClusterFile w × HasFile before.told w (AreBadCluster fault))) first is
not_loaded task word name first second before now (BadWorkload line cause) (cluster, names, bad) = (
  cluster,
  subst (λ o. IsSomeAnd o (λ w. HasCluster before.told w cluster)) first names,
  subst (λ o. IsSomeAnd o (λ n. HasFile before.told n (AreBadWorkload cluster line cause))) second bad,
)
not_loaded task word name first second before now (CannotRead number) (inl (two, file, missed)) =
    inl (two, subst (λ o. IsSomeAnd o (λ w. IsClusterFile w × WasMissed before now w)) first (file, missed))
not_loaded task word name first second before now (CannotRead number) (inr (three, cluster, names, missed)) = inr (inl (
  three,
  cluster,
  subst (λ o. IsSomeAnd o (λ w. HasCluster before.told w cluster)) first names,
  subst (λ o. IsSomeAnd o (WasMissed before now)) second missed,
))
not_loaded task word name first second before now status is = absurd is

-- the text of a task, from what loaded its files
module _ {F A : Type 0} (seen : F → FolderView) (files files_after : F) (task : Task) (other_size : (size : Bytes) → task ≡ Big size → files_after ≡ files)
    (told : (seen files_after).told ≡ (seen files).told) where
  -- there is none
  pub refused_text : (r : Result (Vec ℕ A) Status) (status : Status) → r ≡ Err status → IsRefusal task (seen files) (seen files_after) status → IsTextOf seen files files_after r task
  refused_text r status is refusal = subst (λ s. IsTextOf seen files files_after s task) (sym is) (record {
    done = tt;
    can = tt;
    refused = λ other same. let equal : status ≡ other = cc in subst (IsRefusal task (seen files) (seen files_after)) equal refusal;
    unloaded = other_size;
    same_told = told;
  })

  -- there is one
  pub made_text : (r : Result (Vec ℕ A) Status) (text : Vec ℕ A) → r ≡ Ok text → IsDone (seen files).told task (λ report. text.items ≡ report) → CanBeDone (seen files).told task
      → IsTextOf seen files files_after r task
  made_text r text is done can = subst (λ s. IsTextOf seen files files_after s task) (sym is) (record {
    done = done;
    can = can;
    refused = λ other same. cc;
    unloaded = other_size;
    same_told = told;
  })

-- the headline of legal events: all regions agree on them
pub headline_of : (told : Option Files) (task : Task) (Written : Bytes → Type 0) (cluster : Cluster) (workload : Workload) (events : List Event) → Loaded told task cluster workload
    → HasGiven told task cluster workload events → IsValidCluster cluster → IsValidWorkload cluster workload → AreLegal cluster workload events
    → Written (report_text (report_of cluster workload events)) → IsToldBy (report_text (report_of cluster workload events)) events → Headline told task Written
headline_of told task Written cluster workload events loaded given valid fits legal written tells = record {
  cluster = cluster;
  workload = workload;
  loaded = loaded;
  events = events;
  given = given;
  reported = record { legal = legal; agree = legal_agree run; report = written; tells = tells };
}
  where
    run : IsLegalRun cluster workload events
    run = record { sound = valid; fits = fits; legal = legal }

-- neither a replay nor a run is a big run
pub no_size : {X : Type 0} (word name list size : Bytes) → Replay word name list ≡ Big size → X
no_size word name list size same = absurd (replay_apart same)
  where
    replay_apart : Replay word name list ≡ Big size → ⊥
    replay_apart same = cc

pub no_run_size : {X : Type 0} (word name size : Bytes) → Run word name ≡ Big size → X
no_run_size word name size same = absurd (run_apart same)
  where
    run_apart : Run word name ≡ Big size → ⊥
    run_apart same = cc

-- a replay, of which the cluster and the workload were loaded
module _ (before : FolderView) (word name list : Bytes) (cluster : Cluster) (workload : Workload) (loaded : Loaded before.told (Replay word name list) cluster workload) where
  malformed : (line : ℕ) (cause : EventsCause) (bytes : Bytes) → AreMalformed line cause bytes → AreBadEvents cluster workload line cause bytes
  malformed line TooLong bytes is = is
  malformed line Form bytes is = is
  malformed line (Rule n) bytes is = absurd is

  -- the events' file was refused
  pub no_events : (later now : FolderView) (status : Status) → KeepsFiles before later → IsEventsRefusal list later now status → IsRefusal (Replay word name list) before now status
  no_events later now NoMemory follows is = tt
  no_events later now (BadEvents line cause) follows is =
      let here : HasFile before.told list (AreMalformed line cause) = subst (λ told. HasFile told list (AreMalformed line cause)) follows.told is in
      (cluster, workload, loaded, file_more before.told list (AreMalformed line cause) (AreBadEvents cluster workload line cause) (malformed line cause) here)
  no_events later now (CannotRead number) follows (four, missed) =
      inr (inr (four, cluster, workload, loaded, missed_later before later now list follows missed))
  no_events later now status follows is = absurd is

  module _ (events : List (ℕ × Event)) (all : HasFile before.told list (HoldEvents events)) where
    -- an event was refused
    pub not_legal : (now : FolderView) (status : Status) → IsStepRefusal cluster workload events status → IsRefusal (Replay word name list) before now status
    not_legal now NoMemory is = tt
    not_legal now (BadEvents line TooLong) is = absurd is
    not_legal now (BadEvents line Form) is = absurd is
    not_legal now (BadEvents line (Rule n)) is =
        let bad = file_more before.told list (HoldEvents events) (AreBadEvents cluster workload line (Rule n)) (λ bytes are. (events, are, is)) all in
        (cluster, workload, loaded, bad)
    not_legal now status is = absurd is

-- what became of the events of a replay
module _ {F A : Type 0} (seen : F → FolderView) (files files_after : F) (told : (seen files_after).told ≡ (seen files).told) (word name list : Bytes)
    (cluster : Cluster) (workload : Workload) (loaded : Loaded (seen files).told (Replay word name list) cluster workload)
    (events : List (ℕ × Event)) (all : HasFile (seen files).told list (HoldEvents events)) where
  pub replayed_text : (r : Result (Vec ℕ A) Status) → IsValidCluster cluster → IsValidWorkload cluster workload
      → IfOk r (λ _. AreLegal cluster workload (unnumbered events))
      → IfOk r (λ text. text.items ≡ report_text (report_of cluster workload (unnumbered events)))
      → IfOk r (λ text. IsToldBy text.items (unnumbered events))
      → ((status : Status) → r ≡ Err status → IsStepRefusal cluster workload events status)
      → IsTextOf seen files files_after r (Replay word name list)
  replayed_text (Ok text) valid fits legal written tells refused =
      made_text seen files files_after (Replay word name list) (no_size word name list) told (Ok text) text refl
      (headline_of (seen files).told (Replay word name list) (λ report. text.items ≡ report) cluster workload (unnumbered events) loaded (events, all, refl) valid fits legal written
      (subst (λ lines. IsToldBy lines (unnumbered events)) written tells))
      (record {
        runnable = record { cluster = cluster; workload = workload; loaded = loaded };
        events = events;
        events_file = all;
        legal = legal;
      })
  replayed_text (Err status) valid fits legal written tells refused =
      refused_text seen files files_after (Replay word name list) (no_size word name list) told (Err status) status refl
      (not_legal (seen files) word name list cluster workload loaded events all (seen files_after) status (refused status refl))
