-- The merged events of nodes that are done are a legal run, eager and finished.
use Rattle.std.proofs.Common.{◌≡◌, ◌≢◌, ◌<◌, ◌≤◌, ◌⊎◌, ℕ, true, false, eqb, List, [], ◌∷◌, length, map, filter, Some, refl, sym, ap, subst, ◌∙◌, inl, inr, arith}
use Rattle.std.proofs.Common.{Result, Ok, Err, IfOk, Vec}
use Rattle.std.proofs.lemmas.Bool.{cases_Bool}
use Rattle.std.proofs.Math.ListN.{get_or-map}
use Rattle.dt_lists.specs.Lists.{AllIn, Has, IsFront, Pairwise}
use Rattle.dt_lists.proofs.Callers.{all_get, all_put}
use Rattle.dt_text.specs.declared.NoMemory.{NoMemory}
use Rattle.dt_events.specs.declared.Event.{Event}
use Rattle.dt_events.specs.declared.Stamped.{Stamped}
use Rattle.dt_events.specs.Events.{region_of}
use Rattle.dt_events.specs.Stamps.{events_of}
use Rattle.dt_txn.specs.declared.Txn.{Txn}
use Rattle.dt_txn.specs.Replica.{done_ids}
use Rattle.dt_workload.specs.declared.Session.{Session}
use Rattle.dt_session.specs.Eager.{AllChange, first_calls, first_events, sessions_at}
use Rattle.dt_session.specs.Finished.{AreAnswered}
use Rattle.dt_session.specs.Run.{AreLegal, world_after}
use Rattle.dt_session.specs.World.{World, Node, Place, node_at, opening_table, opening_world, session_at}
use Rattle.dt_report.specs.declared.Report.{Report}
use Rattle.dt_report.specs.Report.{report_text}
use Rattle.dt_report.specs.Printable.{IsPrintable}
use Rattle.dt_agreement.proofs.Callers.{each_found, places_parallel}
use Rattle.dt_merge.specs.Merge.{region_at, those_at}
use Rattle.dt_merge.specs.WorldRegions.{HasInvariant}
use Rattle.dt_site.specs.SessionsStandIn.{SessionsStandIn}
use Rattle.dt_site.specs.Site.{SiteView, node_of}
use Rattle.dt_site.proofs.Callers.{attempts_have, kept_here}
use Rattle.dt_world.specs.SitesAfter.{AreSitesAfter}
use Rattle.dt_world.specs.WorldReport.{report_of}
use Rattle.dt_node.specs.NodeView.{NodeView}
use Rattle.dt_node.specs.NodeInWorld.{NodeFits}
use Rattle.dt_run.specs.EndOfRun.{IsAllDone}
use Rattle.dt_run.specs.Marks.{kept_by_region}
use Rattle.dt_run.specs.NodesStand.{AreInStep, AreNodes, BeganEagerly, StandsAmong}
use Rattle.dt_run.specs.NodesView.{NodesView, kept_by, marks_at, no_running_node, node_in}
use Rattle.dt_run.specs.Run.{AreMerged, IsRun, IsRunReport, IsRunText}
use Rattle.dt_run.proofs.Laws.{are_kept, merge_changes, merge_keeps, merge_legal, merge_world}
use Rattle.dt_run.proofs.TurnsInOrder.{good_world}
use Rattle.dt_run.proofs.SitesAfter.{sites_stand}

-- what was merged of the nodes as they are seen was merged of the nodes
pub merged_of_seen : {v seen : NodesView} {events found : List Event} → v ≡ seen → events ≡ found → AreMerged (kept_by seen.nodes) found → AreMerged (kept_by v.nodes) events
merged_of_seen {events = events} is same merged = subst (λ (w : NodesView). AreMerged (kept_by w.nodes) events) (sym is) (subst (AreMerged _) (sym same) merged)

-- the events of a region, with or without their stamps
events_at_region : (region : ℕ) (items : List Stamped) → filter (λ event. eqb (region_of event) region) (events_of items) ≡ events_of (those_at region items)
events_at_region region [] = refl
events_at_region region (x ∷ items) = go (cases_Bool (eqb (region_at x) region)) (events_at_region region items)
  where
    go : (eqb (region_at x) region ≡ true) ⊎ (eqb (region_at x) region ≡ false) → filter (λ event. eqb (region_of event) region) (events_of items) ≡ events_of (those_at region items)
        → filter (λ event. eqb (region_of event) region) (events_of (x ∷ items)) ≡ events_of (those_at region (x ∷ items))
    go (inl t) e = rw t (ap (λ l. x.event ∷ l) e)
    go (inr n) e = rw n e

-- every call is answered where each session says so
all_answered : (sessions : List Session) (places : List Place) → Pairwise (λ s p. p.answered ≡ length s.calls) sessions places → AreAnswered sessions places
all_answered [] places all = tt
all_answered (s ∷ sessions) [] all = absurd all
all_answered (s ∷ sessions) (p ∷ places) all = (all.0, all_answered sessions places all.1)

module _ {v : NodesView} (n : AreNodes v) (sound : v.broken ≡ false) (some : 1 ≤ length (marks_at v 0)) (d : IsAllDone v) {events : List Event} (m : AreMerged (kept_by v.nodes) events) where
  abbrev whole : World
  whole = world_after v.cluster v.workload (events_of n.all)

  first : NodeFits v.cluster v.workload (events_of n.all) (node_in v 0)
  first = (n.stand 0 n.cluster.some).fits

  good : HasInvariant v.cluster v.workload whole
  good = good_world first

  legal : AreLegal v.cluster v.workload events
  legal = subst (AreLegal v.cluster v.workload) (sym m.events_are) (merge_legal n.chronicle m.merged m.is n.cluster n.workload)

  changing : AllChange v.cluster v.workload (opening_world v.cluster v.workload) events
  changing = subst (AllChange v.cluster v.workload _) (sym m.events_are) (merge_changes n.chronicle m.merged m.is n.cluster n.workload)

  same_world : world_after v.cluster v.workload events ≡ whole
  same_world = ap (world_after v.cluster v.workload) m.events_are ∙ merge_world n.chronicle m.merged m.is n.cluster n.workload

  begins : (region : ℕ) → region < v.cluster.regions
      → IsFront (first_events v.cluster region (opening_table v.cluster) (first_calls (sessions_at region v.workload.sessions)) 0) (filter (λ event. eqb (region_of event) region) events)
  begins region lr = subst (IsFront _) (sym own) begun
    where
      step : AreInStep v
      step = n.in_step sound

      own : filter (λ event. eqb (region_of event) region) events ≡ events_of (kept_by_region v region)
      own =
          ap (filter (λ event. eqb (region_of event) region)) m.events_are ∙ events_at_region region m.merged
          ∙ ap events_of (merge_keeps (kept_by v.nodes) (are_kept n.chronicle) m.merged m.is region ∙ get_or-map (λ (x : NodeView). x.site.region.events) v.nodes region no_running_node)

      phases : step.made ≢ 0
      phases e = let k : length (marks_at v 0) ≡ step.made = (step.each 0 n.cluster.some).marks.many in absurd (omega (arith, k, e, some))

      begun : BeganEagerly v.cluster v.workload region (kept_by_region v region)
      begun = (step.each region lr).begun phases

  answered : AreAnswered v.workload.sessions whole.places
  answered = all_answered v.workload.sessions whole.places
      (each_found (λ t p. p.answered ≡ length t.calls) v.workload.sessions whole.places (sym (places_parallel good.inv)) n.workload.names_once each)
    where
      each : (t : Session) → Has v.workload.sessions t → (p : Place) → session_at v.workload.sessions whole.places t.region t.name ≡ Some (t, p) → p.answered ≡ length t.calls
      each t h p e =
          let lr : t.region < v.cluster.regions = (all_get _ v.workload.sessions n.workload.sessions t h).region in
          let f : StandsAmong v n.all t.region = n.stand t.region lr in
          let k = subst (λ r. SessionsStandIn v.cluster v.workload whole r (node_in v t.region).sessions) f.number f.fits.sessions in
          d.answered t.region lr t.name _ (kept_here k t.name e)

  executed : (region source : ℕ) → region < v.cluster.regions → source < v.cluster.regions → AllIn (λ s. Has (done_ids (node_at whole region).here) s.txn.id) (node_at whole source).submitted
  executed region source lr ls =
      let f : StandsAmong v n.all region = n.stand region lr in
      let g : StandsAmong v n.all source = n.stand source ls in
      let fn : node_of (node_in v region).site ≡ node_at whole region = subst (λ r. node_of (node_in v region).site ≡ node_at whole r) f.number f.fits.site.node in
      let gn : node_of (node_in v source).site ≡ node_at whole source = subst (λ r. node_of (node_in v source).site ≡ node_at whole r) g.number g.fits.site.node in
      subst (λ (x : Node). AllIn (λ s. Has (done_ids x.here) s.txn.id) (node_at whole source).submitted) fn
      (subst (λ (x : Node). AllIn (λ s. Has (done_ids (node_in v region).site.region.state.here) s.txn.id) x.submitted) gn
      (all_put _ _ (λ s h. all_get (λ (t : Txn). Has (done_ids (node_in v region).site.region.state.here) t.id) (node_in v source).site.region.state.submitted (d.executed region source lr ls) s.txn
      (attempts_have (node_in v source).site.region.state.submitted (node_in v source).site.origins s h))))

  pub merged_run : IsRun v events
  merged_run = record {
    merged = m;
    legal = legal;
    eager = record { changing = changing; begins = begins };
    finished = record {
      answered = subst (λ (w : World). AreAnswered v.workload.sessions w.places) (sym same_world) answered;
      executed = λ region source lr ls. subst (λ (w : World). AllIn (λ s. Has (done_ids (node_at w region).here) s.txn.id) (node_at w source).submitted) (sym same_world) (executed region source lr ls);
    };
  }

  -- the nodes' sites are those after these events
  pub sites_after : {sites : List SiteView} → sites ≡ map (λ (x : NodeView). x.site) v.nodes → AreSitesAfter v.cluster v.workload events sites
  sites_after all = sites_stand n all events legal same_world

  -- their report is that of a run
  pub run_report : (report : Report) → report ≡ report_of v.cluster v.workload events → IsRunReport v report
  run_report report is =
      let same : report.events ≡ events = ap (λ (r : Report). r.events) is in
      record { run = subst (IsRun v) (sym same) merged_run; report_is = is ∙ ap (report_of v.cluster v.workload) (sym same) }

  pub report_told : (answer : Result Report NoMemory) → IfOk answer (λ report. report ≡ report_of v.cluster v.workload events) → IfOk answer (IsRunReport v)
  report_told (Ok report) is = run_report report is
  report_told (Err e) is = tt

  -- and so is its text
  pub text_told : {A : Type 0} (answer : Result (Vec ℕ A) NoMemory) → IfOk answer (λ text. text.items ≡ report_text (report_of v.cluster v.workload events))
      → IfOk answer (λ text. IsPrintable (report_of v.cluster v.workload events)) → IfOk answer (λ text. IsRunText v text.items)
  text_told (Ok text) is printable =
      record { report = report_of v.cluster v.workload events; told = run_report _ refl; text_is = is; tells = (v.cluster, v.workload, is, printable) }
  text_told (Err e) is printable = tt
