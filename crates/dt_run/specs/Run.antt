-- What a run gives: the report of the events that the nodes have kept, as one list in the order of stamps. One learns here
-- that this list is a legal run of the cluster and its workload, eager and finished (`IsRun`). Read next: src/lib.rt.
use Rattle.std.specs.Prelude.{◌≡◌, ℕ, List}
use Rattle.dt_events.specs.declared.Event.{Event}
use Rattle.dt_events.specs.declared.Stamped.{Stamped}
use Rattle.dt_events.specs.Stamps.{events_of}
use Rattle.dt_merge.specs.Merge.{IsMerge}
use Rattle.dt_session.specs.Eager.{IsEager}
use Rattle.dt_session.specs.Finished.{IsFinished}
use Rattle.dt_session.specs.Run.{AreLegal}
use Rattle.dt_text.specs.Texts.{Bytes}
use Rattle.dt_report.specs.declared.Report.{Report}
use Rattle.dt_report.specs.Report.{report_text}
use Rattle.dt_world.specs.WorldReport.{report_of, IsToldBy}
use Rattle.dt_gen.specs.Summary.{summary_of}
use Rattle.dt_run.specs.NodesView.{NodesView, kept_by}

-- these are the events that lists of kept events have, in the order of a merge
pub record AreMerged (kept : List (List Stamped)) (events : List Event) : Type 0 where
  pub merged : List Stamped
  pub is : IsMerge kept merged
  pub events_are : events ≡ events_of merged

-- these are the events that the nodes have kept, and they are a legal run, in which every event counts and nothing is left
pub record IsRun (v : NodesView) (events : List Event) : Type 0 where
  pub merged : AreMerged (kept_by v.nodes) events
  pub legal : AreLegal v.cluster v.workload events
  pub eager : IsEager v.cluster v.workload events
  pub finished : IsFinished v.cluster v.workload events

-- the report is that of such events, which it has in its last section
pub record IsRunReport (v : NodesView) (report : Report) : Type 0 where
  pub run : IsRun v report.events
  pub report_is : report ≡ report_of v.cluster v.workload report.events

-- the text is that of such a report, and tells of no other events than those of this report
pub record IsRunText (v : NodesView) (text : Bytes) : Type 0 where
  pub report : Report
  pub told : IsRunReport v report
  pub text_is : text ≡ report_text report
  pub tells : IsToldBy text report.events

-- the text is the summary of such a report, for a workload of n calls
pub record IsRunSummary (v : NodesView) (calls : ℕ) (text : Bytes) : Type 0 where
  pub report : Report
  pub told : IsRunReport v report
  pub text_is : text ≡ summary_of calls report
