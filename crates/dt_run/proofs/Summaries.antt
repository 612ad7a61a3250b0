-- What a run comes to in three lines, read off the nodes: the answers that all regions have kept are those of the merged events, and
-- the first table that the report of these shows is that of region 0.
use Rattle.std.proofs.Common.{◌≡◌, ◌<◌, ◌≤◌, ◌+◌, ◌^◌, ℕ, Bool, false, cond, List, [], ◌∷◌, length, map, get_or, refl, sym, ap, ◌∙◌, arith}
use Rattle.std.proofs.Common.{Result, Ok, Err, IfOk, Vec}
use Rattle.std.specs.Prelude.{sum_by}
use Rattle.std.proofs.lemmas.List.{get_or-map}
use Rattle.std.proofs.lemmas.List.Sums.{count_by-le-length, sum_by-cons}
use Rattle.std.proofs.lemmas.Simd.{map-map}
use Rattle.dt_lists.proofs.Callers.{sum_mapped}
use Rattle.dt_text.specs.Texts.{Bytes}
use Rattle.dt_text.specs.declared.NoMemory.{NoMemory}
use Rattle.dt_events.specs.declared.Event.{Event}
use Rattle.dt_events.specs.declared.Stamped.{Stamped}
use Rattle.dt_events.specs.Stamps.{events_of}
use Rattle.dt_table.specs.declared.Shown.{Shown}
use Rattle.dt_table.specs.Table.{shown}
use Rattle.dt_cluster.specs.declared.Cluster.{Cluster}
use Rattle.dt_workload.specs.declared.Workload.{Workload}
use Rattle.dt_merge.specs.Merge.{IsMerge}
use Rattle.dt_site.specs.Site.{SiteView}
use Rattle.dt_gen.specs.Summary.{answer_count, is_answer, kept_answers, row_sum, summary_text}
use Rattle.dt_world.specs.WorldReport.{report_of, tables_of}
use Rattle.dt_node.specs.NodeView.{NodeView}
use Rattle.dt_run.specs.EndOfRun.{IsAllDone}
use Rattle.dt_run.specs.NodesStand.{AreNodes}
use Rattle.dt_run.specs.NodesView.{NodesView, kept_by, marks_at, no_running_node, node_in}
use Rattle.dt_run.specs.Run.{AreMerged, IsRunSummary}
use Rattle.dt_run.specs.SeatsInner.{AreSeated, SeatView, answers_at, events_at, nodes_view, seat_at}
use Rattle.dt_run.proofs.Laws.{are_kept, merge_exists, merge_sums, tables_are}
use Rattle.dt_run.proofs.RunLaws.{run_report, sites_after}
use Rattle.dt_run.proofs.SeatCounts.{kept_fits}
use Rattle.dt_run.proofs.WaitingPackets.{node_is, one_for_each}

-- the answers among events, with or without their stamps
count_answers : (xs : List Stamped) → answer_count (events_of xs) ≡ kept_answers xs
count_answers [] = refl
count_answers (x ∷ xs) =
    sum_by-cons (λ event. cond (is_answer event) 1 0) x.event (events_of xs) ∙ ap (λ n. cond (is_answer x.event) 1 0 + n) (count_answers xs)
    ∙ sym (sum_by-cons (λ (y : Stamped). cond (is_answer y.event) 1 0) x xs)

-- the nodes that are done
module _ {v : NodesView} (n : AreNodes v) (sound : v.broken ≡ false) (some : 1 ≤ length (marks_at v 0)) (d : IsAllDone v) where
  merge : (merged : List Stamped) × IsMerge (kept_by v.nodes) merged
  merge = merge_exists (kept_by v.nodes) (are_kept n.chronicle)

  abbrev events : List Event
  events = events_of merge.0

  merged : AreMerged (kept_by v.nodes) events
  merged = record { merged = merge.0; is = merge.1; events_are = refl }

  all_answers : answer_count events ≡ sum_by kept_answers (kept_by v.nodes)
  all_answers = count_answers merge.0 ∙ merge_sums (kept_by v.nodes) (are_kept n.chronicle) merge.0 merge.1 (λ x. cond (is_answer x.event) 1 0)

  abbrev sites : List SiteView
  sites = map (λ (x : NodeView). x.site) v.nodes

  first_table : get_or (tables_of v.cluster v.workload events) 0 [] ≡ shown (node_in v 0).site.region.state.here.table
  first_table =
      let tables : map (λ (p : SiteView). shown p.region.state.here.table) sites ≡ tables_of v.cluster v.workload events =
      tables_are {told = record { cluster = v.cluster; workload = v.workload; sites = sites; events = events }} (sites_after n sound some d merged refl) in
      let one : 0 < v.cluster.regions = n.cluster.some in
      let many : length v.nodes ≡ v.cluster.regions = n.many in
      ap (λ t. get_or t 0 []) (sym tables ∙ map-map (λ (p : SiteView). shown p.region.state.here.table) (λ (x : NodeView). x.site) v.nodes)
      ∙ get_or-map (λ (x : NodeView). shown x.site.region.state.here.table) v.nodes 0 no_running_node [] (omega (arith, one, many))

  summary_is : (calls answers : ℕ) (rows : List Shown) → answers ≡ sum_by kept_answers (kept_by v.nodes) → rows ≡ shown (node_in v 0).site.region.state.here.table
      → (text : Bytes) → text ≡ summary_text calls answers (row_sum rows) → IsRunSummary v calls text
  summary_is calls answers rows counted shows text is = record {
    report = report_of v.cluster v.workload events;
    told = run_report n sound some d merged (report_of v.cluster v.workload events) refl;
    text_is = is ∙ ap (λ k. summary_text calls k (row_sum rows)) (counted ∙ sym all_answers) ∙ ap (λ l. summary_text calls (answer_count events) (row_sum l)) (shows ∙ sym first_table);
  }

  -- so the three lines are those of the report
  pub summary_told : {A : Type 0} (calls answers : ℕ) (rows : List Shown) → answers ≡ sum_by kept_answers (kept_by v.nodes) → rows ≡ shown (node_in v 0).site.region.state.here.table
      → (answer : Result (Vec ℕ A) NoMemory) → IfOk answer (λ text. text.items ≡ summary_text calls answers (row_sum rows)) → IfOk answer (λ text. IsRunSummary v calls text.items)
  summary_told calls answers rows counted shows (Ok text) is = summary_is calls answers rows counted shows text.items is
  summary_told calls answers rows counted shows (Err e) is = tt

-- answers are events
answers_few : (s : SeatView) → answers_at s ≤ events_at s
answers_few s = count_by-le-length (λ (x : Stamped). is_answer x.event) s.node.site.region.events

answers_within : (seats : List SeatView) → sum_by answers_at seats ≤ sum_by events_at seats
answers_within [] = omega arith
answers_within (s ∷ seats) =
    let a : sum_by answers_at (s ∷ seats) ≡ answers_at s + sum_by answers_at seats = sum_by-cons answers_at s seats in
    let b : sum_by events_at (s ∷ seats) ≡ events_at s + sum_by events_at seats = sum_by-cons events_at s seats in
    let c : answers_at s ≤ events_at s = answers_few s in
    let e : sum_by answers_at seats ≤ sum_by events_at seats = answers_within seats in
    omega (arith, a, b, c, e)

-- seats, as the code goes through them
module _ {cluster : Cluster} {workload : Workload} {seats : List SeatView} {broken : Bool} (a : AreSeated cluster workload seats broken) where
  pub answers_fit : sum_by answers_at seats < 2 ^ 64
  answers_fit =
      let few : sum_by answers_at seats ≤ sum_by events_at seats = answers_within seats in
      let fits : sum_by events_at seats < 2 ^ 64 = kept_fits a in
      omega (arith, few, fits)

  pub some_seat : 0 < length seats
  some_seat = let one : 0 < cluster.regions = a.nodes.cluster.some in omega (arith, one, one_for_each a)

  pub answers_seen : sum_by answers_at seats ≡ sum_by kept_answers (kept_by (nodes_view cluster workload seats broken).nodes)
  answers_seen =
      sym (sum_mapped kept_answers (λ (s : SeatView). s.node.site.region.events) seats)
      ∙ ap (sum_by kept_answers) (sym (map-map (λ (x : NodeView). x.site.region.events) (λ (s : SeatView). s.node) seats))

  -- what the first seat's region shows is what the node of region 0 shows
  pub first_shown : shown (seat_at seats 0).node.site.region.state.here.table ≡ shown (node_in (nodes_view cluster workload seats broken) 0).site.region.state.here.table
  first_shown = ap (λ (n : NodeView). shown n.site.region.state.here.table) (sym (node_is cluster workload seats broken 0))
