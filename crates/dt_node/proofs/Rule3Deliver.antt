-- The node's region receives entries of another region's log, as a packet brought them.
use Rattle.std.proofs.Common.{◌≡◌, ◌≢◌, ◌<◌, ◌≤◌, ◌+◌, ◌-◌, ℕ, true, List, [], ◌∷◌, ◌++◌, length, map}
use Rattle.std.proofs.Common.{drop, take, Ok, Some, refl, sym, ap, subst, ◌∙◌, arith}
use Rattle.std.proofs.lemmas.Bool.Decides.{nat_tests}
use Rattle.std.proofs.lemmas.List.{get_or-set_same, length-map, length-append, length-drop}
use Rattle.dt_lists.specs.Lists.{AllIn}
use Rattle.dt_access.specs.declared.Part.{Part}
use Rattle.dt_log.specs.declared.Taken.TheVariants.{New}
use Rattle.dt_events.specs.declared.Event.{Event}
use Rattle.dt_events.specs.declared.Event.TheVariants.{Deliver}
use Rattle.dt_sched.specs.Views.{log_at}
use Rattle.dt_txn.specs.declared.Entry.{Entry}
use Rattle.dt_region.specs.Region.{RegionView}
use Rattle.dt_region.specs.Conditions.{CanDeliver}
use Rattle.dt_region.specs.Rules.{MakesDelivery, past_end, with_entries}
use Rattle.dt_region.specs.Sound.{IsSoundRegion}
use Rattle.dt_cluster.specs.declared.Cluster.{Cluster}
use Rattle.dt_workload.specs.declared.Workload.{Workload}
use Rattle.dt_session.specs.World.{World, log_of, received_of, txn_of}
use Rattle.dt_session.specs.Step.{next}
use Rattle.dt_session.specs.Run.{world_after}
use Rattle.dt_site.specs.Site.{in_region}
use Rattle.dt_site.specs.StandsIn.{IsReached}
use Rattle.dt_site.proofs.Callers.{HasShortLists, Steps, after_more, can_deliver, deliver_made, has_received, joins, legal_short, run_more, sessions_stay}
use Rattle.dt_node.specs.NodeView.{NodeView, number_of}
use Rattle.dt_node.specs.NodeInWorld.{NodeFits}
use Rattle.dt_node.specs.Turn.{GoesAfter}
use Rattle.dt_node.proofs.EventsGoOn.{one_goes, reached}

joins_both : (received first last : ℕ) → first ≤ received → received < last → joins received first last ≡ true
joins_both received first last a b = grind (arith, nat_tests)

-- a log with entries that go on past its end reaches as far as they do
longer_with : (log : List Part) (first : ℕ) (entries : List Entry) → first ≤ length log → length log < first + length entries → length (with_entries log first entries) ≡ first + length entries
longer_with log first entries from_there past =
    let new : List Entry = past_end log first entries in
    let long : length (with_entries log first entries) ≡ length log + length new =
    length-append log (map (λ e. e.part) new) ∙ ap (λ m. length log + m) (length-map new (λ e. e.part)) in
    let some : length new ≡ length entries - (length log - first) = length-drop (length log - first) entries in
    omega (arith, long, some, from_there, past)

-- where some entries were new, the region has the log as far as they go
pub new_reach : (p r : RegionView) (home first : ℕ) (entries : List Entry) (n : ℕ) → home < length p.state.logs → MakesDelivery p home first first entries (Ok (New n)) r
    → length (log_at r.state.logs home) ≡ first + length entries
new_reach p r home first entries n there made =
    ap (λ (x : RegionView). length (log_at x.state.logs home)) made.3 ∙ ap length (get_or-set_same p.state.logs home (with_entries (log_at p.state.logs home) first entries) [] there)
    ∙ longer_with (log_at p.state.logs home) first entries made.0 made.1

module _ {cluster : Cluster} {workload : Workload} {events : List Event} {a : NodeView} (f : NodeFits cluster workload events a) {home : ℕ} (lh : home < cluster.regions) (other : home ≢ number_of a)
    (first : ℕ) (entries : List Entry) (within : first + length entries ≤ length (log_of (world_after cluster workload events) home))
    (parts : map (λ e. e.part) entries ≡ drop first (take (first + length entries) (log_of (world_after cluster workload events) home)))
    (txns : AllIn (λ e. txn_of (world_after cluster workload events) e.part.id ≡ Some e.txn) entries) where
  abbrev w : World
  w = world_after cluster workload events

  ordered : first ≤ first + length entries
  ordered = omega arith

  -- it may be given the entries
  pub can_receive : length events < 4294967296 → CanDeliver a.site.region.state home first entries
  can_receive few =
      let short : HasShortLists w (length events) = legal_short cluster f.run.sound workload f.run.fits events f.run.legal in
      can_deliver (reached f) f.number f.site lh first (first + length entries) ordered within entries parts txns other (omega (arith, short.parts, few))

  -- some were new to it
  module _ (r : RegionView) (n : ℕ) (made : MakesDelivery a.site.region home first first entries (Ok (New n)) r) (sound : IsSoundRegion r.state) where
    steps : Steps cluster workload w (Deliver (number_of a) home first (first + length entries)) (number_of a) a.site (in_region a.site r) w.places
    steps = deliver_made (reached f) f.number f.site lh first (first + length entries) ordered within entries parts txns first
        (joins_both (length (log_at a.site.region.state.logs home)) first (first + length entries) made.0 made.1) made.0 r (New n) made sound

    -- more of the log is received, so the world is another one
    changed : next cluster workload w (Deliver (number_of a) home first (first + length entries)) ≢ w
    changed same =
        let v : World = next cluster workload w (Deliver (number_of a) home first (first + length entries)) in
        let then : IsReached cluster workload v = record {
          events = events ++ Deliver (number_of a) home first (first + length entries) ∷ [];
          run = run_more (reached f) (Deliver (number_of a) home first (first + length entries)) steps.legal;
          after = after_more (reached f) (Deliver (number_of a) home first (first + length entries));
        } in
        let before : length (log_at a.site.region.state.logs home) ≡ received_of w (number_of a) home = has_received (reached f) f.number f.site lh in
        let after : length (log_at r.state.logs home) ≡ received_of v (number_of a) home = has_received then f.number steps.stands lh in
        let still : received_of v (number_of a) home ≡ received_of w (number_of a) home = ap (λ u. received_of u (number_of a) home) same in
        let there : home < length a.site.region.state.logs = subst (λ m. home < m) (sym (f.site.sound.logs ∙ f.site.many)) lh in
        let reach : length (log_at r.state.logs home) ≡ first + length entries = new_reach a.site.region r home first entries n there made in
        let past : length (log_at a.site.region.state.logs home) < first + length entries = made.1 in
        absurd (omega (arith, before, after, still, reach, past))

    pub receive_goes : GoesAfter cluster workload events (Deliver (number_of a) home first (first + length entries) ∷ []) (record a { site = in_region a.site r })
    receive_goes = one_goes f (Deliver (number_of a) home first (first + length entries)) steps changed
        (sessions_stay (reached f) (Deliver (number_of a) home first (first + length entries)) steps.legal (ap (λ v. v.places) steps.is) f.number f.sessions) (ap (λ (x : RegionView). x.state.number) made.3) refl refl refl
