-- What a run is, from what made it.
use Rattle.std.proofs.Common.{◌≡◌, ℕ, ◌≤◌, Result, Ok, Err, IfOk, Vec, ap, sym, ◌∙◌, subst}
use Rattle.std.specs.Fmt.{decimal}
use Rattle.dt_access.specs.Clash.{Bytes}
use Rattle.dt_cluster.specs.declared.Cluster.{Cluster}
use Rattle.dt_cluster.specs.Valid.{IsValidCluster}
use Rattle.dt_workload.specs.declared.Workload.{Workload}
use Rattle.dt_workload.specs.Valid.{IsValidWorkload}
use Rattle.dt_gen.specs.Load.{load_cluster, load_workload}
use Rattle.dt_report.specs.declared.Report.{Report}
use Rattle.dt_report.specs.Report.{report_text}
use Rattle.dt_gen.specs.Summary.{big_text, summary_of}
use Rattle.dt_gen.proofs.Callers.{each_summary}
use Rattle.dt_world.specs.WorldReport.{report_of, IsToldBy}
use Rattle.dt_command.specs.Tasks.{Run}
use Rattle.dt_command.specs.TaskFiles.{Loaded}
use Rattle.dt_command.specs.Headline.{BigRun, Headline}
use Rattle.dt_command.specs.RefusalCode.{IsReportOfRun, IsSummaryOfRun, IsTextOfRun}
use Rattle.dt_command.proofs.TextOrRefusal.{headline_of}

module _ (cluster : Cluster) (workload : Workload) (report : Report) (is : IsReportOfRun cluster workload report) where
  -- the text of such a report makes the headline true
  run_headline : (told : _) (word name text : Bytes) → Loaded told (Run word name) cluster workload → IsValidCluster cluster → IsValidWorkload cluster workload
      → text ≡ report_text report → IsToldBy text report.events → Headline told (Run word name) (λ lines. text ≡ lines)
  run_headline told word name text loaded valid fits written tells =
      let as_reported : text ≡ report_text (report_of cluster workload report.events) = written ∙ ap report_text is.report_is in
      headline_of told (Run word name) (λ lines. text ≡ lines) cluster workload report.events loaded is.run valid fits is.legal as_reported
      (subst (λ lines. IsToldBy lines report.events) as_reported tells)

  -- and the summary of one of the load is known
  big_lines : (calls : ℕ) → calls ≤ 20000 → cluster ≡ load_cluster → workload ≡ load_workload calls → (text : Bytes) → text ≡ summary_of calls report
      → BigRun (decimal calls) (λ lines. text ≡ lines)
  big_lines calls few of_cluster of_workload text written =
      let P : Cluster × Workload → Type 0 = λ q. IsReportOfRun q.0 q.1 report in
      let of_load : IsReportOfRun load_cluster (load_workload calls) report = subst P (λ i. (of_cluster i, of_workload i)) is in
      let known : big_text calls ≡ summary_of calls (report_of load_cluster (load_workload calls) report.events) =
      sym (each_summary calls report.events few of_load.legal of_load.run.finished) in record {
        calls = calls;
        named = λ i. decimal calls;
        lines = written ∙ ap (summary_of calls) of_load.report_is ∙ sym known;
        events = report.events;
        legal = of_load.legal;
        run = of_load.run;
        summary = known;
      }

-- a text of a run makes the headline true
pub text_headline : {cluster : Cluster} {workload : Workload} {text : Bytes} → IsTextOfRun cluster workload text → (told : _) (word name : Bytes) → Loaded told (Run word name) cluster workload
    → IsValidCluster cluster → IsValidWorkload cluster workload → Headline told (Run word name) (λ lines. text ≡ lines)
text_headline {cluster} {workload} {text} t told word name loaded valid fits = run_headline cluster workload t.report t.told told word name text loaded valid fits t.text_is t.tells

-- the summary of a run of the load is what a big run reports
pub big_told : {A E : Type 0} {cluster : Cluster} {workload : Workload} (calls : ℕ) → calls ≤ 20000 → cluster ≡ load_cluster → workload ≡ load_workload calls → (r : Result (Vec ℕ A) E)
    → IfOk r (λ text. IsSummaryOfRun cluster workload calls text.items) → IfOk r (λ text. BigRun (decimal calls) (λ lines. text.items ≡ lines))
big_told {cluster = cluster} {workload} calls few of_cluster of_workload (Ok text) s = big_lines cluster workload s.report s.told calls few of_cluster of_workload text.items s.text_is
big_told calls few of_cluster of_workload (Err error) s = tt
