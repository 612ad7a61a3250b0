-- The headline, and when it must come true.
--
-- It is put together of what was asked and loaded (TaskFiles), and of what is reported: events that are legal, on which all
-- regions agree, and the bytes of their report. A replay is given its events; a run makes them, and leaves nothing undone. A
-- big run makes its own load too, and reports three lines. Read next: Causes, for what is answered instead; then Answers, for
-- all that a call promises.
use Rattle.std.specs.Prelude.{◌≡◌, ℕ, List, Option}
use Rattle.std.specs.Fmt.{decimal}
use Rattle.dt_access.specs.Clash.{Bytes}
use Rattle.dt_outside.specs.Folder.{Files}
use Rattle.dt_events.specs.declared.Event.{Event}
use Rattle.dt_cluster.specs.declared.Cluster.{Cluster}
use Rattle.dt_workload.specs.declared.Workload.{Workload}
use Rattle.dt_session.specs.Run.{AreLegal}
use Rattle.dt_session.specs.Eager.{IsEager}
use Rattle.dt_session.specs.Finished.{IsFinished}
use Rattle.dt_session.specs.Agreement.{Agree}
use Rattle.dt_gen.specs.Load.{load_cluster, load_workload}
use Rattle.dt_report.specs.Report.{report_text}
use Rattle.dt_gen.specs.Summary.{big_text, summary_of}
use Rattle.dt_world.specs.WorldReport.{report_of, IsToldBy}
use Rattle.dt_command.specs.Tasks.{Task, Replay, Run, Big}
use Rattle.dt_command.specs.TaskFiles.{Loaded, HasEvents, unnumbered}

-- what is reported: each event is legal after those before it; all regions agree on outcomes, tables, the order of an attempt
-- that was answered before another was submitted, and causes; the report of these events was written; and its text tells of no
-- other events
pub record Reported (cluster : Cluster) (workload : Workload) (events : List Event) (Written : Bytes → Type 0) : Type 0 where
  pub legal : AreLegal cluster workload events
  pub agree : Agree cluster workload events
  pub report : Written (report_text (report_of cluster workload events))
  pub tells : IsToldBy (report_text (report_of cluster workload events)) events

-- what a run makes: after these events every call is answered and every attempt executed everywhere; each of them changed
-- something, and every region began by submitting the first call of each of its sessions
pub record AreOfARun (cluster : Cluster) (workload : Workload) (events : List Event) : Type 0 where
  pub finished : IsFinished cluster workload events
  pub eager : IsEager cluster workload events

-- where the events come from: a replay has those of its file; a run makes them, and no file has them
abbrev pub HasGiven : Option Files → Task → Cluster → Workload → List Event → Type 0
HasGiven told (Replay word name events_name) cluster workload events =
    (numbered : List (ℕ × Event)) × HasEvents told (Replay word name events_name) numbered × (events ≡ unnumbered numbered)
HasGiven told (Run word name) cluster workload events = AreOfARun cluster workload events
HasGiven told (Big size) cluster workload events = ⊥

-- When `replay` or `run` ends with Done, its report is that of the legal events it prints: each attempt has one outcome
-- in all regions executing it, the outcome of running the printed order one by one on the opening rows; each region's
-- table is that of its executed attempts; an attempt answered before another's submission stands earlier; and one fails
-- only by its procedure or a named move.
--
-- `Written` says of a report's text that it was written.
pub record Headline (told : Option Files) (task : Task) (Written : Bytes → Type 0) : Type 0 where
  -- the cluster is the one that the task names, and the workload is that of its file
  pub cluster : Cluster
  pub workload : Workload
  pub loaded : Loaded told task cluster workload
  -- the events are the task's
  pub events : List Event
  pub given : HasGiven told task cluster workload events
  -- they are legal, all regions agree on them, and what was written is their report
  pub reported : Reported cluster workload events Written

-- what a big run reports: its three lines, known before it runs; and they are the summary of the report of a run of the generated
-- load of n calls
pub record BigRun (size : Bytes) (Written : Bytes → Type 0) : Type 0 where
  pub calls : ℕ
  pub named : size ≡ decimal calls
  pub lines : Written (big_text calls)
  pub events : List Event
  pub legal : AreLegal load_cluster (load_workload calls) events
  pub run : AreOfARun load_cluster (load_workload calls) events
  pub summary : big_text calls ≡ summary_of calls (report_of load_cluster (load_workload calls) events)

-- what it means that a task is done
abbrev pub IsDone : Option Files → Task → (Bytes → Type 0) → Type 0
IsDone told (Replay cluster workload events) Written = Headline told (Replay cluster workload events) Written
IsDone told (Run cluster workload) Written = Headline told (Run cluster workload) Written
IsDone told (Big size) Written = BigRun size Written
