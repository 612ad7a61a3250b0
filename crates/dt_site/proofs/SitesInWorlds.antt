-- Sites that stand in a world that legal events lead to: what follows, and what a legal event leaves as it is.
use Rattle.std.proofs.Common.{◌≡◌, ◌≢◌, ◌<◌, ◌+◌, ℕ, List, [], ◌∷◌, ◌++◌, length, map, get_or, set, Some, sym, ap, subst, ◌∙◌}
use Rattle.std.proofs.lemmas.List.{get_or-set_same, get_or-set_other}
use Rattle.std.proofs.Math.Seq.{map-set_same}
use Rattle.dt_lists.specs.Lists.{Has}
use Rattle.dt_lists.proofs.Callers.{any_at, all_any, any_front, front_take, field_of_set}
use Rattle.dt_access.specs.declared.TxnId.{TxnId}
use Rattle.dt_access.specs.declared.Part.{Part}
use Rattle.dt_sched.specs.Views.{log_at, HasPart, IsClosed}
use Rattle.dt_sched.proofs.Callers.{complete_of_closed, present_of_complete}
use Rattle.dt_events.specs.declared.Event.{Event}
use Rattle.dt_events.specs.Stamps.{events_of}
use Rattle.dt_txn.specs.declared.Txn.{Txn}
use Rattle.dt_txn.specs.Replica.{fronts, view_of}
use Rattle.dt_txn.specs.Transaction.{IsValid}
use Rattle.dt_region.specs.Region.{RegionState, held, latest_stamp, outcome_of}
use Rattle.dt_region.specs.Sound.{IsSoundRegion, IsHeldPart}
use Rattle.dt_cluster.specs.declared.Cluster.{Cluster}
use Rattle.dt_workload.specs.declared.Workload.{Workload}
use Rattle.dt_session.specs.World.{World, Node, Place, Submission, log_of, no_node, node_at, outcome_at, outcome_in, received_logs, submissions, txn_of}
use Rattle.dt_session.specs.Step.{IsLegal, next}
use Rattle.dt_session.specs.Run.{order_of, world_after}
use Rattle.dt_agreement.specs.Invariant.{Inv}
use Rattle.dt_agreement.specs.LegalRun.{IsLegalRun}
use Rattle.dt_txn.proofs.Callers.{fronts_at}
use Rattle.dt_agreement.proofs.Callers.{transaction_valid, next_txns, legal_keeps, world_after_more, more_legal, home_region, txn_there}
use Rattle.dt_site.specs.Site.{SiteView, node_of}
use Rattle.dt_site.specs.StandsIn.{IsReached, StandsIn}
use Rattle.dt_site.proofs.Lists.{attempts_have, attempts_length}

-- where the logs and what is received of them stay, each region has received the same
pub received_stay : (w : World) (region : ℕ) (n : Node) (places : List Place) → n.log ≡ (node_at w region).log → n.received ≡ (node_at w region).received
    → (q : ℕ) → received_logs (record { nodes = set w.nodes region n; places = places }) q ≡ received_logs w q
received_stay w region n places log received q =
    let logs : map (λ (x : Node). x.log) (set w.nodes region n) ≡ map (λ (x : Node). x.log) w.nodes = map-set_same (λ x. x.log) w.nodes region n no_node log in
    let lengths : (get_or (set w.nodes region n) q no_node).received ≡ (node_at w q).received = field_of_set (λ x. x.received) w.nodes region n no_node received q in
    let own : (get_or (set w.nodes region n) q no_node).log ≡ (node_at w q).log = field_of_set (λ x. x.log) w.nodes region n no_node log q in
    λ i. fronts (set (lengths i) q (length (own i))) (logs i)

-- the transaction of an id with a part in a log of a sound region is held
pub held_in_log : (s : RegionState) → IsSoundRegion s → (home : ℕ) (id : TxnId) → HasPart (log_at s.logs home) id → (txn : Txn) × (held s id ≡ Some txn)
held_in_log s sound home id h =
    let r : (p : Part) × Has (log_at s.logs home) p × IsHeldPart s home p × (p.id ≡ id) =
    all_any (IsHeldPart s home) (λ p. p.id ≡ id) (log_at s.logs home) (sound.parts home) h in
    (r.2.0, subst (λ x. held s x ≡ Some r.2.0) r.3 r.2.1)

-- what is closed in the view of a sound region is held
pub held_closed : (s : RegionState) → IsSoundRegion s → (id : TxnId) → IsClosed (view_of s.logs s.here) id → (txn : Txn) × (held s id ≡ Some txn)
held_closed s sound id closed =
    let present = present_of_complete (view_of s.logs s.here) id (complete_of_closed (view_of s.logs s.here) id closed) in
    let r : (home : ℕ) × (home < length (view_of s.logs s.here)) × HasPart (log_at (view_of s.logs s.here) home) id =
    any_at (λ log. HasPart log id) [] (view_of s.logs s.here) present in
    held_in_log s sound r.0 id
    (any_front (λ p. p.id ≡ id) _ (log_at s.logs r.0) (front_take _ (log_at s.logs r.0)) (subst (λ l. HasPart l id) (fronts_at s.here.inserted s.logs r.0) r.2))

-- a world that legal events lead to

module _ {cluster : Cluster} {workload : Workload} {w : World} (k : IsReached cluster workload w) where
  pub order : List TxnId
  order = order_of k.events

  pub inv : Inv cluster workload w order
  unfolding order
  inv = subst (λ v. Inv cluster workload v (order_of k.events)) (sym k.after) (legal_keeps k.run)

  -- a legal event more

  pub run_more : (event : Event) → IsLegal cluster workload w event → IsLegalRun cluster workload (k.events ++ event ∷ [])
  run_more event l = record {
    sound = k.run.sound;
    fits = k.run.fits;
    legal = more_legal cluster workload k.events event k.run.legal (subst (λ v. IsLegal cluster workload v event) k.after l);
  }

  pub after_more : (event : Event) → next cluster workload w event ≡ world_after cluster workload (k.events ++ event ∷ [])
  after_more event = ap (λ v. next cluster workload v event) k.after ∙ sym (world_after_more cluster workload k.events event)

  pub txns_stay : (event : Event) → IsLegal cluster workload w event → (id : TxnId) (txn : Txn) → txn_of w id ≡ Some txn → txn_of (next cluster workload w event) id ≡ Some txn
  txns_stay event l id txn e = next_txns k.run.sound k.run.fits w order event l inv id txn e

  pub valid_txn : (id : TxnId) (txn : Txn) → txn_of w id ≡ Some txn → IsValid cluster.procs cluster.version cluster.regions txn
  valid_txn id txn e = (transaction_valid inv id txn e).0

  -- a site that stands in it

  module _ {region : ℕ} {p : SiteView} (s : StandsIn cluster.regions w region p) where
    -- its number of a region is one of the world's
    pub a_region : (home : ℕ) → home < cluster.regions → home < p.region.state.regions
    a_region home lh = subst (λ n. home < n) (sym s.many) lh

    pub here_is : (node_at w region).here ≡ p.region.state.here
    here_is = ap (λ n. n.here) (sym s.node)

    -- a region's own log is the home's
    pub own_log : log_at p.region.state.logs region ≡ log_of w region
    own_log = subst (λ h. log_at p.region.state.logs h ≡ log_of w region) s.number (ap (λ n. n.log) s.node)

    -- the outcome that a region keeps
    pub outcome_here : (id : TxnId) → outcome_of p.region.state id ≡ outcome_at w region id
    outcome_here id = ap (λ n. outcome_in n.here.done id) s.node

    -- as many attempts were submitted in the world as by the region
    pub many_here : length (node_at w region).submitted ≡ length p.region.state.submitted
    many_here = ap (λ n. length n.submitted) (sym s.node) ∙ attempts_length p.region.state.submitted p.origins s.origins

    -- the region's own transactions are those of the world
    pub own_of : (t : Txn) → txn_of w t.id ≡ Some t → t.id.region ≡ p.region.state.number → Has p.region.state.submitted t
    own_of t f e = go (txn_there w t.id t f)
      where
        go : ((x : Submission) × Has (submissions w) x × (x.txn ≡ t) × (x.txn.id ≡ t.id)) → Has p.region.state.submitted t
        go r =
            let g : (r.0.txn.id.region < cluster.regions) × Has (node_at w r.0.txn.id.region).submitted r.0 = home_region cluster.regions w inv.nodes inv.ids r.0 r.1 in
            let at : r.0.txn.id.region ≡ region = ap (λ x. x.region) r.3 ∙ e ∙ s.number in
            let here : Has (node_at w region).submitted r.0 = subst (λ q. Has (node_at w q).submitted r.0) at g.1 in
            subst (Has p.region.state.submitted) r.2
            (attempts_have p.region.state.submitted p.origins r.0 (subst (λ l. Has l r.0) (ap (λ n. n.submitted) (sym s.node)) here))

-- by a legal event of a region its site p becomes q, which keeps the event under one stamp more, and the sessions stand at
-- these places; nothing else of the world changes
pub record Steps (cluster : Cluster) (workload : Workload) (w : World) (event : Event) (region : ℕ) (p q : SiteView) (places : List Place) : Type 0 where
  pub legal : IsLegal cluster workload w event
  pub is : next cluster workload w event ≡ record { nodes = set w.nodes region (node_of q); places = places }
  pub stands : StandsIn cluster.regions (next cluster workload w event) region q
  pub others : (r : ℕ) → r ≢ region → r < cluster.regions → received_logs (next cluster workload w event) r ≡ received_logs w r
  pub kept : events_of q.region.events ≡ events_of p.region.events ++ event ∷ []
  pub stamp : latest_stamp q.region ≡ latest_stamp p.region + 1

-- the node of the region whose site changed
module _ {cluster : Cluster} {workload : Workload} {w : World} (k : IsReached cluster workload w) (event : Event) (q : SiteView) {region : ℕ} {places : List Place} (lr : region < cluster.regions)
    (is : next cluster workload w event ≡ record { nodes = set w.nodes region (node_of q); places = places }) where
  pub node_then : node_of q ≡ node_at (next cluster workload w event) region
  node_then = sym (ap (λ v. node_at v region) is ∙ get_or-set_same w.nodes region (node_of q) no_node (subst (λ n. region < n) (sym (inv k).nodes) lr))

-- the site of every other region stands in the world after the event too
module _ {cluster : Cluster} {workload : Workload} {w : World} (k : IsReached cluster workload w) {event : Event} {region : ℕ} {p q : SiteView} {places : List Place}
    (steps : Steps cluster workload w event region p q places) where
  pub others_stand : (r : ℕ) → r ≢ region → r < cluster.regions → (o : SiteView) → StandsIn cluster.regions w r o → StandsIn cluster.regions (next cluster workload w event) r o
  others_stand r n lr o s = record {
    number = s.number;
    many = s.many;
    sound = s.sound;
    logs = s.logs ∙ sym (steps.others r n lr);
    origins = s.origins;
    known = λ id txn h. txns_stay k event steps.legal id txn (s.known id txn h);
    node = s.node ∙ sym (ap (λ v. node_at v r) steps.is ∙ get_or-set_other w.nodes region r (node_of q) no_node n);
  }
