-- A round of the node's region: insertions, resolutions and executions, one after another, in the world. A round lists them
-- as steps by the region's own account, and they are those of the world, since what the region holds is the world's.
use Rattle.std.proofs.Common.{◌≡◌, ◌≢◌, ◌<◌, ◌≤◌, ◌+◌, ℕ, zero, suc, List, [], ◌∷◌, ◌++◌, length}
use Rattle.std.proofs.Common.{get_or, set, Some, refl, sym, ap, subst, subst₂, ◌∙◌, arith}
use Rattle.std.specs.Prelude.{slice_index}
use Rattle.std.proofs.lemmas.List.{get_or-set_same, get_or-set_other, length_push}
use Rattle.dt_lists.proofs.Callers.{any_at, any_front, front_take}
use Rattle.dt_access.specs.declared.TxnId.{TxnId}
use Rattle.dt_sched.specs.Views.{View, HasPart, IsClosed, log_at}
use Rattle.dt_sched.proofs.Callers.{complete_of_closed, present_of_complete}
use Rattle.dt_events.specs.declared.Event.{Event}
use Rattle.dt_events.specs.declared.Event.TheVariants.{Submit, Append, Deliver, Insert, Resolve, Execute, Answer}
use Rattle.dt_events.specs.Events.{region_of}
use Rattle.dt_txn.specs.declared.Txn.{Txn}
use Rattle.dt_txn.specs.Replica.{IsContinuation, MayStep, Replica, executed, stepped, taken_from, view_of}
use Rattle.dt_txn.proofs.Callers.{fronts_at}
use Rattle.dt_region.specs.Region.{RegionState, RegionView, held}
use Rattle.dt_region.specs.Sound.{IsSoundRegion}
use Rattle.dt_cluster.specs.declared.Cluster.{Cluster}
use Rattle.dt_workload.specs.declared.Workload.{Workload}
use Rattle.dt_session.specs.World.{World, Node, no_node, node_at, opening_world, received_logs, received_of, taken_of, txn_of}
use Rattle.dt_session.specs.Step.{IsLegal, moved_on, next}
use Rattle.dt_session.specs.Run.{AreLegalFrom, world_after, world_from}
use Rattle.dt_session.specs.Eager.{AllChange}
use Rattle.dt_agreement.proofs.Callers.{append_legal, world_from_append}
use Rattle.dt_site.specs.SessionsStandIn.{SessionsStandIn}
use Rattle.dt_site.specs.Site.{SiteView, in_region, node_of}
use Rattle.dt_site.specs.StandsIn.{IsReached, StandsIn}
use Rattle.dt_region.specs.Rounds.{after_steps}
use Rattle.dt_site.proofs.Callers.{after_more, held_in_log, inv, received_stay, run_more, sessions_stay, txns_stay}
use Rattle.dt_node.specs.NodeView.{NodeView, number_of}
use Rattle.dt_node.specs.NodeInWorld.{KnowsNoMore, NodeFits}
use Rattle.dt_node.specs.Turn.{GoesAfter}
use Rattle.dt_node.proofs.EventsGoOn.{change_append, reached}

-- the transaction of an id that is closed in a front of a sound region's logs is held
closed_held : (s : RegionState) → IsSoundRegion s → (here : Replica) (id : TxnId) → IsClosed (view_of s.logs here) id → (txn : Txn) × (held s id ≡ Some txn)
closed_held s sound here id closed =
    let present = present_of_complete (view_of s.logs here) id (complete_of_closed (view_of s.logs here) id closed) in
    let r : (home : ℕ) × (home < length (view_of s.logs here)) × HasPart (log_at (view_of s.logs here) home) id = any_at (λ log. HasPart log id) [] (view_of s.logs here) present in
    held_in_log s sound r.0 id
    (any_front (λ p. p.id ≡ id) _ (log_at s.logs r.0) (front_take _ (log_at s.logs r.0)) (subst (λ l. HasPart l id) (fronts_at here.inserted s.logs r.0) r.2))

-- a log that has a place is one of the logs
some_log : (logs : View) (home n : ℕ) → n < length (log_at logs home) → home < length logs
some_log [] home n lt = absurd (omega arith)
some_log (log ∷ logs) zero n lt = omega arith
some_log (log ∷ logs) (suc home) n lt = let later : home < length logs = some_log logs home n lt in omega arith

-- a region on its way through a round, in a world: what is kept beside its replica stays, and the replica is the world's
record IsInRound (cluster : Cluster) (workload : Workload) (w : World) (region : ℕ) (p : SiteView) (here : Replica) (a : NodeView) : Type 0 where
  reached : IsReached cluster workload w
  logs : p.region.state.logs ≡ received_logs w region
  known : (id : TxnId) (txn : Txn) → held p.region.state id ≡ Some txn → txn_of w id ≡ Some txn
  node : node_at w region ≡ record (node_of p) { here = here }
  sessions : SessionsStandIn cluster workload w region a.sessions
  knows : (other : ℕ) → other ≢ region → KnowsNoMore w a other

-- a region has made all steps of a round
record HasPassed (cluster : Cluster) (workload : Workload) (region : ℕ) (p : SiteView) (a : NodeView) (w : World) (here : Replica) (events : List Event) : Type 0 where
  legal : AreLegalFrom cluster workload w events
  changing : AllChange cluster workload w events
  on_way : IsInRound cluster workload (world_from cluster workload w events) region p (after_steps cluster.procs (held p.region.state) here events) a

module _ {cluster : Cluster} {workload : Workload} {region : ℕ} (lr : region < cluster.regions) {p : SiteView} (many : p.region.state.regions ≡ cluster.regions)
    (sound : IsSoundRegion p.region.state) {a : NodeView} where
  -- one step, of a kind that a region may make

  module _ {w : World} {here : Replica} (o : IsInRound cluster workload w region p here a) where
    here_is : (node_at w region).here ≡ here
    here_is = ap (λ n. n.here) o.node

    -- both accounts find the transaction that is executed
    same_step : (e : Event) → MayStep p.region.state.logs here e → stepped cluster.procs (held p.region.state) here e ≡ stepped cluster.procs (txn_of w) here e
    same_step (Insert r home) m = refl
    same_step (Resolve r ids) m = refl
    same_step (Execute r id) m =
        let h : (txn : Txn) × (held p.region.state id ≡ Some txn) = closed_held p.region.state sound here id m.closed in
        ap (executed cluster.procs here) (h.1 ∙ sym (o.known id h.0 h.1))
    same_step (Submit r name) m = absurd m
    same_step (Append home source n) m = absurd m
    same_step (Deliver r home first last) m = absurd m
    same_step (Answer r name) m = absurd m

    -- the event is legal, and the world moves on

    moves : (e : Event) → region_of e ≡ region → MayStep p.region.state.logs here e → next cluster workload w e ≡ moved_on cluster w region e
    moves (Insert r home) is m = ap (λ q. moved_on cluster w q (Insert r home)) is
    moves (Resolve r ids) is m = ap (λ q. moved_on cluster w q (Resolve r ids)) is
    moves (Execute r id) is m = ap (λ q. moved_on cluster w q (Execute r id)) is
    moves (Submit r name) is m = absurd m
    moves (Append home source n) is m = absurd m
    moves (Deliver r home first last) is m = absurd m
    moves (Answer r name) is m = absurd m

    world_may : (e : Event) → MayStep p.region.state.logs here e → MayStep (received_logs w region) (node_at w region).here e
    world_may e m = subst₂ (λ l h. MayStep l h e) o.logs (sym here_is) m

    home_there : (home : ℕ) → slice_index here.inserted home < length (log_at p.region.state.logs home) → home < cluster.regions
    home_there home lt = subst (λ n. home < n) (sound.logs ∙ many) (some_log p.region.state.logs home (slice_index here.inserted home) lt)

    legal_of : (e : Event) → region_of e ≡ region → MayStep p.region.state.logs here e → IsLegal cluster workload w e
    legal_of (Insert r home) is m = record {
      regions = (subst (λ q. q < cluster.regions) (sym is) lr, home_there home m);
      allowed = subst (λ q. MayStep (received_logs w q) (node_at w q).here (Insert q home)) (sym is) (world_may (Insert region home) m);
    }
    legal_of (Resolve r ids) is m = record {
      regions = subst (λ q. q < cluster.regions) (sym is) lr;
      allowed = subst (λ q. MayStep (received_logs w q) (node_at w q).here (Resolve q ids)) (sym is) (world_may (Resolve region ids) m);
    }
    legal_of (Execute r id) is m = record {
      regions = subst (λ q. q < cluster.regions) (sym is) lr;
      allowed = subst (λ q. MayStep (received_logs w q) (node_at w q).here (Execute q id)) (sym is) (world_may (Execute region id) m);
    }
    legal_of (Submit r name) is m = absurd m
    legal_of (Append home source n) is m = absurd m
    legal_of (Deliver r home first last) is m = absurd m
    legal_of (Answer r name) is m = absurd m

    -- each step changes the replica
    replica_changes : (e : Event) → MayStep p.region.state.logs here e → stepped cluster.procs (held p.region.state) here e ≢ here
    replica_changes (Insert r home) m same =
        let there : home < length here.inserted = subst (λ n. home < n) (sym (ap (λ h. length h.inserted) (sym here_is) ∙ ((inv o.reached).sized region lr).inserted)) (home_there home m) in
        let inserted = set here.inserted home (slice_index here.inserted home + 1) in
        let more : slice_index inserted home ≡ slice_index here.inserted home + 1 = get_or-set_same here.inserted home (slice_index here.inserted home + 1) 0 there in
        let still : slice_index inserted home ≡ slice_index here.inserted home = ap (λ (h : Replica). slice_index h.inserted home) same in
        absurd (omega (arith, more, still))
    replica_changes (Resolve r ids) m same =
        let more : length (here.resolved ++ ids ∷ []) ≡ length here.resolved + 1 = length_push here.resolved ids in
        let still : length (here.resolved ++ ids ∷ []) ≡ length here.resolved = ap (λ (h : Replica). length h.resolved) same in
        absurd (omega (arith, more, still))
    replica_changes (Execute r id) m same =
        let h : (txn : Txn) × (held p.region.state id ≡ Some txn) = closed_held p.region.state sound here id m.closed in
        let made : executed cluster.procs here (Some h.0) ≡ here = subst (λ t. executed cluster.procs here t ≡ here) h.1 same in
        let more : length (executed cluster.procs here (Some h.0)).done ≡ length here.done + 1 = length_push here.done _ in
        let still : length (executed cluster.procs here (Some h.0)).done ≡ length here.done = ap (λ (x : Replica). length x.done) made in
        absurd (omega (arith, more, still))
    replica_changes (Submit r name) m same = absurd m
    replica_changes (Append home source n) m same = absurd m
    replica_changes (Deliver r home first last) m same = absurd m
    replica_changes (Answer r name) m same = absurd m

    module _ (event : Event) (of : region_of event ≡ region) (may : MayStep p.region.state.logs here event) where
      v : World
      v = next cluster workload w event

      abbrev then : Replica
      then = stepped cluster.procs (held p.region.state) here event

      -- the region's own part in the world after the step
      abbrev stepped_node : Node
      stepped_node = record (node_at w region) { here = stepped cluster.procs (txn_of w) (node_at w region).here event }

      legal : IsLegal cluster workload w event
      legal = legal_of event of may

      node_then : node_at v region ≡ record (node_of p) { here = then }
      unfolding v
      node_then =
          ap (λ u. node_at u region) (moves event of may)
          ∙ get_or-set_same w.nodes region stepped_node no_node (subst (λ n. region < n) (sym (inv o.reached).nodes) lr)
          ∙ ap (λ (n : Node). record n { here = stepped cluster.procs (txn_of w) n.here event }) o.node
          ∙ ap (λ (h : Replica). record (node_of p) { here = h }) (sym (same_step event may))

      world_changes : v ≢ w
      world_changes same = replica_changes event may (ap (λ n. n.here) (sym node_then ∙ ap (λ u. node_at u region) same ∙ o.node))

      others : (other : ℕ) → other ≢ region → node_at v other ≡ node_at w other
      unfolding v
      others other n = ap (λ u. node_at u other) (moves event of may)
          ∙ get_or-set_other w.nodes region other stepped_node no_node n

      logs_then : p.region.state.logs ≡ received_logs v region
      unfolding v
      logs_then = o.logs ∙ sym (ap (λ u. received_logs u region) (moves event of may)
          ∙ received_stay w region stepped_node w.places refl refl region)

      on_way : IsInRound cluster workload v region p then a
      unfolding v
      on_way = record {
        reached = record { events = o.reached.events ++ event ∷ []; run = run_more o.reached event legal; after = after_more o.reached event };
        logs = logs_then;
        known = λ id txn h. txns_stay o.reached event legal id txn (o.known id txn h);
        node = node_then;
        sessions = sessions_stay o.reached event legal (ap (λ u. u.places) (moves event of may)) lr o.sessions;
        knows = λ other n. let k : KnowsNoMore w a other = o.knows other n in record {
          took = subst (λ (x : Node). get_or a.took other 0 ≤ taken_from x.here (number_of a)) (sym (others other n)) k.took;
          received = subst (λ (x : Node). get_or a.received other 0 ≤ slice_index (set x.received other (length x.log)) (number_of a)) (sym (others other n)) k.received;
        };
      }

  -- all steps of a round
  passes : (events : List Event) {w : World} {here : Replica} → IsInRound cluster workload w region p here a
      → IsContinuation cluster.procs (held p.region.state) region p.region.state.logs here events → HasPassed cluster workload region p a w here events
  unfolding v
  passes [] o c = record { legal = tt; changing = tt; on_way = o }
  passes (event ∷ events) {w} {here} o c =
      let later = passes events (on_way o event c.0 c.1) c.2 in
      record { legal = (legal o event c.0 c.1, later.legal); changing = (world_changes o event c.0 c.1, later.changing); on_way = later.on_way }

module _ {cluster : Cluster} {workload : Workload} {events : List Event} {a : NodeView} (f : NodeFits cluster workload events a) (new : List Event) (r : RegionView)
    (steps : IsContinuation cluster.procs (held a.site.region.state) (number_of a) a.site.region.state.logs a.site.region.state.here new)
    (state : r.state ≡ record a.site.region.state { here = after_steps cluster.procs (held a.site.region.state) a.site.region.state.here new }) (sound : IsSoundRegion r.state) where
  abbrev w : World
  w = world_after cluster workload events

  begins : IsInRound cluster workload w (number_of a) a.site a.site.region.state.here a
  begins = record {
    reached = reached f;
    logs = f.site.logs;
    known = f.site.known;
    node = sym f.site.node;
    sessions = f.sessions;
    knows = f.knows;
  }

  passed : HasPassed cluster workload (number_of a) a.site a w a.site.region.state.here new
  passed = passes f.number f.site.many f.site.sound new begins steps

  later : world_from cluster workload w new ≡ world_after cluster workload (events ++ new)
  later = sym (world_from_append cluster workload (opening_world cluster workload) events new)

  number_is : r.state.number ≡ number_of a
  number_is = ap (λ s. s.number) state

  site_then : StandsIn cluster.regions (world_from cluster workload w new) (number_of a) (in_region a.site r)
  site_then = record {
    number = number_is;
    many = ap (λ s. s.regions) state ∙ f.site.many;
    sound = sound;
    logs = ap (λ s. s.logs) state ∙ passed.on_way.logs;
    origins = f.site.origins ∙ sym (ap (λ s. length s.submitted) state);
    known = λ id txn h. passed.on_way.known id txn (subst (λ (s : RegionState). held s id ≡ Some txn) state h);
    node = ap (λ s. node_of (in_region a.site (record r { state = s }))) state ∙ sym passed.on_way.node;
  }

  -- the round goes on from the events that there were
  pub round_goes : GoesAfter cluster workload events new (record a { site = in_region a.site r })
  round_goes = record {
    legal = passed.legal;
    changing = passed.changing;
    fits = record {
      run = record { sound = f.run.sound; fits = f.run.fits; legal = append_legal cluster workload (opening_world cluster workload) events new f.run.legal passed.legal };
      changing = change_append cluster workload (opening_world cluster workload) events new f.changing passed.changing;
      number = subst (λ n. n < cluster.regions) (sym number_is) f.number;
      site = subst (λ n. StandsIn cluster.regions (world_after cluster workload (events ++ new)) n (in_region a.site r)) (sym number_is)
          (subst (λ v. StandsIn cluster.regions v (number_of a) (in_region a.site r)) later site_then);
      sessions = subst (λ n. SessionsStandIn cluster workload (world_after cluster workload (events ++ new)) n a.sessions) (sym number_is)
          (subst (λ v. SessionsStandIn cluster workload v (number_of a) a.sessions) later passed.on_way.sessions);
      few = f.few;
      took = f.took;
      received = f.received;
      knows = λ other n. knows_then other (λ e. n (e ∙ sym number_is));
    };
  }
    where
      knows_then : (other : ℕ) → other ≢ number_of a → KnowsNoMore (world_after cluster workload (events ++ new)) (record a { site = in_region a.site r }) other
      knows_then other n =
          let k : KnowsNoMore (world_after cluster workload (events ++ new)) a other = subst (λ v. KnowsNoMore v a other) later (passed.on_way.knows other n) in
          record {
            took = subst (λ m. get_or a.took other 0 ≤ taken_of (world_after cluster workload (events ++ new)) other m) (sym number_is) k.took;
            received = subst (λ m. get_or a.received other 0 ≤ received_of (world_after cluster workload (events ++ new)) other m) (sym number_is) k.received;
          }
