-- Rules 4 to 6: the steps that a region makes by itself.
use Rattle.std.proofs.Common.{◌≡◌, ◌<◌, ℕ, List, length, set, true, false, Ok, Some, refl, sym, ap, subst, subst₂, ◌∙◌}
use Rattle.dt_access.specs.declared.TxnId.{TxnId}
use Rattle.dt_events.specs.declared.Event.{Event}
use Rattle.dt_events.specs.declared.Event.TheVariants.{Insert, Resolve, Execute}
use Rattle.dt_txn.specs.declared.Txn.{Txn}
use Rattle.dt_txn.specs.Replica.{Replica, MayStep, stepped, executed}
use Rattle.dt_region.specs.Region.{RegionView, held, latest_stamp}
use Rattle.dt_region.specs.Rules.{MakesStep, after_making, with_event}
use Rattle.dt_region.specs.Sound.{IsSoundRegion}
use Rattle.dt_region.proofs.Callers.{kept_more, latest_more}
use Rattle.dt_events.specs.Stamps.{events_of}
use Rattle.dt_cluster.specs.declared.Cluster.{Cluster}
use Rattle.dt_workload.specs.declared.Workload.{Workload}
use Rattle.dt_session.specs.World.{World, Node, node_at, received_logs, txn_of}
use Rattle.dt_session.specs.Step.{IsLegal, next, moved_on}
use Rattle.dt_site.specs.Site.{SiteView, in_region, node_of}
use Rattle.dt_site.specs.StandsIn.{IsReached, StandsIn}
use Rattle.dt_site.proofs.SitesInWorlds.{Steps, held_closed, here_is, node_then, received_stay, txns_stay}

module _ {cluster : Cluster} {workload : Workload} {w : World} (k : IsReached cluster workload w) {region : ℕ} (lr : region < cluster.regions) {p : SiteView} (s : StandsIn cluster.regions w region p) where
  -- the region may make the step by its own account exactly where it may in the world
  module _ (event : Event) where
    up : MayStep p.region.state.logs p.region.state.here event → MayStep (received_logs w region) (node_at w region).here event
    up m = subst₂ (λ l h. MayStep l h event) s.logs (sym (here_is k s)) m

    down : MayStep (received_logs w region) (node_at w region).here event → MayStep p.region.state.logs p.region.state.here event
    down m = subst₂ (λ l h. MayStep l h event) (sym s.logs) (here_is k s) m

  -- a step of the region's own
  module _ (event : Event) (l : IsLegal cluster workload w event) (moves : next cluster workload w event ≡ moved_on cluster w region event)
      (finds : stepped cluster.procs (held p.region.state) p.region.state.here event ≡ stepped cluster.procs (txn_of w) p.region.state.here event) (r : RegionView)
      (is : r ≡ with_event p.region (after_making cluster.procs p.region.state event) event) (sound : IsSoundRegion r.state) where
    node_made : node_of (in_region p r) ≡ record (node_at w region) { here = stepped cluster.procs (txn_of w) (node_at w region).here event }
    node_made =
        ap (λ x. node_of (in_region p x)) is
        ∙ ap (λ (h : Replica). record (node_of p) { here = h }) finds
        ∙ ap (λ (n : Node). record n { here = stepped cluster.procs (txn_of w) n.here event }) s.node

    next_is : next cluster workload w event ≡ record { nodes = set w.nodes region (node_of (in_region p r)); places = w.places }
    next_is = moves ∙ ap (λ n. record { nodes = set w.nodes region n; places = w.places }) (sym node_made)

    received_still : (q : ℕ) → received_logs (next cluster workload w event) q ≡ received_logs w q
    received_still q =
        ap (λ v. received_logs v q) moves
        ∙ received_stay w region (record (node_at w region) { here = stepped cluster.procs (txn_of w) (node_at w region).here event }) w.places refl refl q

    step_made : Steps cluster workload w event region p (in_region p r) w.places
    step_made = record {
      legal = l;
      is = next_is;
      stands = record {
        number = ap (λ x. x.state.number) is ∙ s.number;
        many = ap (λ x. x.state.regions) is ∙ s.many;
        sound = sound;
        logs = ap (λ x. x.state.logs) is ∙ s.logs ∙ sym (received_still region);
        origins = s.origins ∙ sym (ap (λ x. length x.state.submitted) is);
        known = λ id txn h. txns_stay k event l id txn (s.known id txn (subst (λ x. held x.state id ≡ Some txn) is h));
        node = node_then k event (in_region p r) lr next_is;
      };
      others = λ q n lq. received_still q;
      kept = ap (λ x. events_of x.events) is ∙ kept_more p.region p.region.state event;
      stamp = ap latest_stamp is ∙ latest_more p.region p.region.state event;
    }

  -- what each of the three calls makes where it answers true, and that the event is not legal where it answers false

  module _ (home : ℕ) (lh : home < cluster.regions) (r : RegionView) where
    pub insert_made : MakesStep cluster.procs p.region (Insert p.region.state.number home) (Ok true) r → IsSoundRegion r.state
        → Steps cluster workload w (Insert region home) region p (in_region p r) w.places
    insert_made m sound =
        let m' : MakesStep cluster.procs p.region (Insert region home) (Ok true) r = subst (λ n. MakesStep cluster.procs p.region (Insert n home) (Ok true) r) s.number m in
        step_made (Insert region home) (record { regions = (lr, lh); allowed = up (Insert region home) m'.0 }) refl refl r m'.1 sound

    pub insert_refused : MakesStep cluster.procs p.region (Insert p.region.state.number home) (Ok false) r → ¬ (IsLegal cluster workload w (Insert region home))
    insert_refused m l = m.0 (subst (λ n. MayStep p.region.state.logs p.region.state.here (Insert n home)) (sym s.number) (down (Insert region home) l.allowed))

  module _ (ids : List TxnId) (r : RegionView) where
    pub resolve_made : MakesStep cluster.procs p.region (Resolve p.region.state.number ids) (Ok true) r → IsSoundRegion r.state
        → Steps cluster workload w (Resolve region ids) region p (in_region p r) w.places
    resolve_made m sound =
        let m' : MakesStep cluster.procs p.region (Resolve region ids) (Ok true) r = subst (λ n. MakesStep cluster.procs p.region (Resolve n ids) (Ok true) r) s.number m in
        step_made (Resolve region ids) (record { regions = lr; allowed = up (Resolve region ids) m'.0 }) refl refl r m'.1 sound

    pub resolve_refused : MakesStep cluster.procs p.region (Resolve p.region.state.number ids) (Ok false) r → ¬ (IsLegal cluster workload w (Resolve region ids))
    resolve_refused m l = m.0 (subst (λ n. MayStep p.region.state.logs p.region.state.here (Resolve n ids)) (sym s.number) (down (Resolve region ids) l.allowed))

  module _ (id : TxnId) (r : RegionView) where
    pub execute_made : MakesStep cluster.procs p.region (Execute p.region.state.number id) (Ok true) r → IsSoundRegion r.state
        → Steps cluster workload w (Execute region id) region p (in_region p r) w.places
    execute_made m sound =
        let m' : MakesStep cluster.procs p.region (Execute region id) (Ok true) r = subst (λ n. MakesStep cluster.procs p.region (Execute n id) (Ok true) r) s.number m in
        let h : (txn : Txn) × (held p.region.state id ≡ Some txn) = held_closed p.region.state s.sound id m'.0.closed in
        step_made (Execute region id) (record { regions = lr; allowed = up (Execute region id) m'.0 }) refl
        (ap (executed cluster.procs p.region.state.here) (h.1 ∙ sym (s.known id h.0 h.1))) r m'.1 sound

    pub execute_refused : MakesStep cluster.procs p.region (Execute p.region.state.number id) (Ok false) r → ¬ (IsLegal cluster workload w (Execute region id))
    execute_refused m l = m.0 (subst (λ n. MayStep p.region.state.logs p.region.state.here (Execute n id)) (sym s.number) (down (Execute region id) l.allowed))
