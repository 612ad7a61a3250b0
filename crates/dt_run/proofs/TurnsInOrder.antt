-- One turn of each node: taken one after another, their events go on from those that there were, and each node stands in the
-- world after all of them.
use Rattle.std.proofs.Common.{◌≡◌, ◌≢◌, ◌<◌, ◌≤◌, ℕ, zero, suc, List, [], ◌++◌, length, set, Some, refl, sym, ap, subst, ◌∙◌, inl, inr, arith, append-nil, append_assoc}
use Rattle.std.specs.Prelude.{slice_index}
use Rattle.std.proofs.lemmas.List.{map-append}
use Rattle.dt_lists.specs.Lists.{AllIn, Either}
use Rattle.dt_lists.proofs.Callers.{all_get, all_image, all_put, either_nat}
use Rattle.dt_access.specs.declared.TxnId.{TxnId}
use Rattle.dt_events.specs.declared.Event.{Event}
use Rattle.dt_events.specs.declared.Stamped.{Stamped}
use Rattle.dt_events.specs.Events.{region_of}
use Rattle.dt_events.specs.Stamps.{events_of}
use Rattle.dt_sched.specs.Views.{log_at}
use Rattle.dt_txn.specs.declared.Txn.{Txn}
use Rattle.dt_txn.specs.Replica.{taken_from}
use Rattle.dt_packet.specs.declared.packet.Packet.{Packet}
use Rattle.dt_cluster.specs.declared.Cluster.{Cluster}
use Rattle.dt_workload.specs.declared.Workload.{Workload}
use Rattle.dt_session.specs.World.{World, Node, node_at, opening_world, received_of, taken_of, txn_of}
use Rattle.dt_session.specs.Run.{order_of, world_after, world_from}
use Rattle.dt_agreement.proofs.Callers.{legal_keeps, world_from_append}
use Rattle.dt_merge.specs.OwnPart.{HasGrown, HaveGrown, Own}
use Rattle.dt_merge.specs.WorldRegions.{HasInvariant}
use Rattle.dt_site.proofs.Callers.{has_received}
use Rattle.dt_node.specs.NodeView.{NodeView, new_items, number_of}
use Rattle.dt_node.specs.Packets.{IsToldOf}
use Rattle.dt_node.specs.NodeInWorld.{AreTold, IsFor, KnowsNoMore, NodeFits}
use Rattle.dt_node.specs.Turn.{GoesAfter, MovesOn}
use Rattle.dt_run.proofs.Laws.{grown_refl, grown_trans, reached}
use Rattle.dt_run.proofs.OtherRegions.{WorldGoesOn, goes_on, sessions_still, site_stays, told_grows}

-- the world of a node keeps the invariant
pub good_world : {cluster : Cluster} {workload : Workload} {events : List Event} {n : NodeView} → NodeFits cluster workload events n → HasInvariant cluster workload (world_after cluster workload events)
good_world {cluster} {workload} {events} f = record { order = order_of events; inv = legal_keeps f.run }

-- a node's counts are those of its region in the world
pub taken_here : {cluster : Cluster} {workload : Workload} {events : List Event} {n : NodeView} (f : NodeFits cluster workload events n) (source : ℕ)
    → taken_of (world_after cluster workload events) (number_of n) source ≡ taken_from n.site.region.state.here source
taken_here f source = ap (λ (x : Node). taken_from x.here source) (sym f.site.node)

pub received_here : {cluster : Cluster} {workload : Workload} {events : List Event} {n : NodeView} (f : NodeFits cluster workload events n) (home : ℕ) → home < cluster.regions
    → received_of (world_after cluster workload events) (number_of n) home ≡ length (log_at n.site.region.state.logs home)
received_here f home lh = sym (has_received (reached f) f.number f.site lh)

-- one node's turn, in whatever world it stands
module _ {cluster : Cluster} {workload : Workload} {events : List Event} {packets : List Packet} {before after : NodeView} (f : NodeFits cluster workload events before) (told : AreTold cluster workload events packets before)
    (t : MovesOn cluster.procs packets before after) where
  abbrev pub new_events : List Event
  new_events = events_of (new_items before after)

  pub goes : GoesAfter cluster workload events new_events after
  goes = t.gone.goes cluster workload events refl f told

  abbrev w : World
  w = world_after cluster workload events

  abbrev v : World
  v = world_after cluster workload (events ++ new_events)

  later : v ≡ world_from cluster workload w new_events
  later = world_from_append cluster workload (opening_world cluster workload) events new_events

  pub own_events : AllIn (λ e. region_of e ≡ number_of before) new_events
  own_events = all_image _ (λ (x : Stamped). x.event) (new_items before after) t.gone.mine

  pub goes_to : WorldGoesOn cluster workload (number_of before) w v
  goes_to = subst (WorldGoesOn cluster workload (number_of before) w) (sym later) (goes_on f.run.sound f.run.fits (number_of before) new_events w (good_world f) goes.legal own_events)

  counts : (q source : ℕ) → source < cluster.regions → Either (q ≡ number_of before) → (taken_of w q source ≤ taken_of v q source) × (received_of w q source ≤ received_of v q source)
  counts q source ls (inr n) =
      let same : node_at v q ≡ node_at w q = ap (λ (o : Own). o.node) (goes_to.others q n) in
      subst (λ (x : Node). (taken_of w q source ≤ taken_from x.here source) × (received_of w q source ≤ slice_index (set x.received q (length x.log)) source)) (sym same)
      (omega arith, omega arith)
  counts q source ls (inl is) =
      subst (λ r. (taken_of w r source ≤ taken_of v r source) × (received_of w r source ≤ received_of v r source)) (sym is) (
        let a = taken_here f source in
            let b : taken_of v (number_of before) source ≡ taken_from after.site.region.state.here source = subst
            (λ r. taken_of v r source ≡ taken_from after.site.region.state.here source) t.gone.number (taken_here goes.fits source) in
            let up : taken_from before.site.region.state.here source ≤ taken_from after.site.region.state.here source = t.gone.taken source in
            omega (arith, a, b, up),
        let a = received_here f source ls in
            let b : received_of v (number_of before) source ≡ length (log_at after.site.region.state.logs source) =
            subst (λ r. received_of v r source ≡ length (log_at after.site.region.state.logs source)) t.gone.number (received_here goes.fits source ls) in
            let up : length (log_at before.site.region.state.logs source) ≤ length (log_at after.site.region.state.logs source) = t.gone.logs source in
            omega (arith, a, b, up),
      )

  -- another node stands where it stood
  pub other_fits : {n : NodeView} → number_of n ≢ number_of before → NodeFits cluster workload events n → NodeFits cluster workload (events ++ new_events) n
  other_fits {n} apart g = record {
    run = goes.fits.run;
    changing = goes.fits.changing;
    number = g.number;
    site = site_stays goes_to g.number apart g.site;
    sessions = sessions_still goes_to g.number apart g.sessions;
    few = g.few;
    took = g.took;
    received = g.received;
    knows = λ other m. knows other (g.knows other m) (counts other (number_of n) g.number (either_nat other (number_of before)));
  }
    where
      knows : (other : ℕ) → KnowsNoMore w n other → (taken_of w other (number_of n) ≤ taken_of v other (number_of n)) × (received_of w other (number_of n) ≤ received_of v other (number_of n)) → KnowsNoMore v n other
      knows other k c = record { took = let a = k.took in let b = c.0 in omega (arith, a, b); received = let a = k.received in let b = c.1 in omega (arith, a, b) }

  -- and what packets say to it is still so
  pub other_told : {n : NodeView} {others : List Packet} → number_of n < cluster.regions → AreTold cluster workload events others n → AreTold cluster workload (events ++ new_events) others n
  other_told {n} {others} lt a = record {
    addressed = a.addressed;
    told = all_put (IsToldOf v) others (λ p h. still p (all_get (IsFor cluster.regions (number_of n)) others a.addressed p h) (all_get (IsToldOf w) others a.told p h));
  }
    where
      still : (p : Packet) → IsFor cluster.regions (number_of n) p → IsToldOf w p → IsToldOf v p
      still p to i =
          let target : p.target < cluster.regions = subst (λ r. r < cluster.regions) (sym to.target) lt in
          let c = counts p.source p.target target (either_nat p.source (number_of before)) in
          told_grows goes_to to.source target c.0 c.1 i

-- what the turns of the first n nodes made
abbrev pub new_below : (ℕ → NodeView) → (ℕ → NodeView) → ℕ → List Stamped
new_below node node' zero = []
new_below node node' (suc n) = new_below node node' n ++ new_items (node n) (node' n)

-- all events after the turns of the first n
abbrev pub events_below : List Stamped → (ℕ → NodeView) → (ℕ → NodeView) → ℕ → List Event
events_below all node node' n = events_of (all ++ new_below node node' n)

-- how all stand after the turns of the first n
pub record SoFar (cluster : Cluster) (workload : Workload) (all : List Stamped) (node node' : ℕ → NodeView) (packets : ℕ → List Packet) (n : ℕ) : Type 0 where
  pub grown : HaveGrown (world_after cluster workload (events_of all)) (world_after cluster workload (events_below all node node' n))
  pub txns : (id : TxnId) (txn : Txn) → txn_of (world_after cluster workload (events_of all)) id ≡ Some txn → txn_of (world_after cluster workload (events_below all node node' n)) id ≡ Some txn
  pub turned : (region : ℕ) → region < cluster.regions → region < n → NodeFits cluster workload (events_below all node node' n) (node' region)
  pub waiting : (region : ℕ) → region < cluster.regions → n ≤ region
      → NodeFits cluster workload (events_below all node node' n) (node region) × AreTold cluster workload (events_below all node node' n) (packets region) (node region)

-- the turns of all nodes
module _ {cluster : Cluster} {workload : Workload} (all : List Stamped) (node node' : ℕ → NodeView) (packets : ℕ → List Packet)
    (number : (region : ℕ) → region < cluster.regions → number_of (node region) ≡ region)
    (fit : (region : ℕ) → region < cluster.regions → NodeFits cluster workload (events_of all) (node region))
    (told : (region : ℕ) → region < cluster.regions → AreTold cluster workload (events_of all) (packets region) (node region))
    (turns : (region : ℕ) → region < cluster.regions → MovesOn cluster.procs (packets region) (node region) (node' region)) where
  abbrev new : ℕ → List Stamped
  new region = new_items (node region) (node' region)

  events_more : (n : ℕ) → events_below all node node' (suc n) ≡ events_below all node node' n ++ events_of (new n)
  events_more n = ap events_of (sym (append_assoc all (new_below node node' n) (new n))) ∙ map-append (λ (x : Stamped). x.event) (all ++ new_below node node' n) (new n)

  pub so_far : (n : ℕ) → n ≤ cluster.regions → SoFar cluster workload all node node' packets n
  so_far zero le = record {
    grown = λ q. subst (λ l. HasGrown (node_at (world_after cluster workload (events_of all)) q) (node_at (world_after cluster workload (events_of l)) q)) (sym (append-nil all)) (grown_refl _);
    txns = λ id txn e. subst (λ l. txn_of (world_after cluster workload (events_of l)) id ≡ Some txn) (sym (append-nil all)) e;
    turned = λ region lr lt. absurd (omega (arith, lt));
    waiting = λ region lr lt. (
      subst (λ l. NodeFits cluster workload (events_of l) (node region)) (sym (append-nil all)) (fit region lr),
      subst (λ l. AreTold cluster workload (events_of l) (packets region) (node region)) (sym (append-nil all)) (told region lr),
    );
  }
  so_far (suc n) le =
      let lt : n < cluster.regions = omega (arith, le) in
      step lt (so_far n (omega (arith, le)))
    where
      step : n < cluster.regions → SoFar cluster workload all node node' packets n → SoFar cluster workload all node node' packets (suc n)
      step lt s = record {
        grown = λ q. subst (λ l. HasGrown (node_at (world_after cluster workload (events_of all)) q) (node_at (world_after cluster workload l) q)) (sym (events_more n))
            (grown_trans (node_at (world_after cluster workload (events_of all)) q) (node_at (world_after cluster workload (events_below all node node' n)) q) _ (s.grown q) ((goes_to f t u).grown q));
        txns = λ id txn e. subst (λ l. txn_of (world_after cluster workload l) id ≡ Some txn) (sym (events_more n)) ((goes_to f t u).txns id txn (s.txns id txn e));
        turned = λ region lr below. turned region lr below (either_nat region n);
        waiting = λ region lr above.
            let r = s.waiting region lr (omega (arith, above)) in
            let apart : number_of (node region) ≢ number_of (node n) = λ e. let same : region ≡ n = sym (number region lr) ∙ e ∙ number n lt in absurd (omega (arith, same, above)) in (
              subst (λ l. NodeFits cluster workload l (node region)) (sym (events_more n)) (other_fits f t u apart r.0),
              subst (λ l. AreTold cluster workload l (packets region) (node region)) (sym (events_more n)) (other_told f t u r.0.number r.1),
            );
      }
        where
          f : NodeFits cluster workload (events_below all node node' n) (node n)
          f = (s.waiting n lt (omega arith)).0

          t : AreTold cluster workload (events_below all node node' n) (packets n) (node n)
          t = (s.waiting n lt (omega arith)).1

          u : MovesOn cluster.procs (packets n) (node n) (node' n)
          u = turns n lt

          turned : (region : ℕ) → region < cluster.regions → region < suc n → Either (region ≡ n) → NodeFits cluster workload (events_below all node node' (suc n)) (node' region)
          turned region lr below (inl is) = subst (λ r. NodeFits cluster workload (events_below all node node' (suc n)) (node' r)) (sym is) (subst (λ l. NodeFits cluster workload l (node' n)) (sym (events_more n)) (goes f t u).fits)
          turned region lr below (inr m) =
              let old : region < n = omega (arith, below, m) in
              let g = s.turned region lr old in
              let apart : number_of (node' region) ≢ number_of (node n) = λ e. m (sym ((turns region lr).gone.number ∙ number region lr) ∙ e ∙ number n lt) in
              subst (λ l. NodeFits cluster workload l (node' region)) (sym (events_more n)) (other_fits f t u apart g)
