-- What is done stays done: where all calls are answered no session goes on any more, so nothing is submitted, and what a region
-- has executed it has executed for good.
use Rattle.std.proofs.Common.{◌≡◌, ◌<◌, ℕ, Bool, true, false, cond, ltb, leb, ◌&&◌, List, [], ◌∷◌, ◌++◌, length, map, Option, None, Some, option_map, refl}
use Rattle.std.proofs.Common.{sym, ap, subst, ◌∙◌, inl, inr, arith}
use Rattle.std.proofs.lemmas.List.{get_or-set_same, get_or-set_other}
use Rattle.dt_lists.specs.Lists.{AllIn, Either, Has, IsFront}
use Rattle.dt_lists.proofs.Callers.{all_get, all_put, any_front, either_nat, field_of_set, front_append, front_map, front_refl, front_trans}
use Rattle.dt_access.specs.Clash.{Bytes}
use Rattle.dt_access.specs.declared.TxnId.{TxnId}
use Rattle.dt_events.specs.declared.Event.{Event}
use Rattle.dt_events.specs.declared.Event.TheVariants.{Submit, Append, Deliver, Insert, Resolve, Execute, Answer}
use Rattle.dt_events.specs.Events.{region_of}
use Rattle.dt_events.specs.Stamps.{events_of}
use Rattle.dt_proc.specs.Tree.{ProcTree}
use Rattle.dt_txn.specs.declared.Outcome.{Outcome}
use Rattle.dt_txn.specs.declared.Txn.{Txn}
use Rattle.dt_txn.specs.Replica.{Replica, done_ids, executed}
use Rattle.dt_packet.specs.declared.packet.Packet.{Packet}
use Rattle.dt_cluster.specs.declared.Cluster.{Cluster}
use Rattle.dt_cluster.specs.Valid.{IsValidCluster}
use Rattle.dt_workload.specs.declared.Session.{Session}
use Rattle.dt_workload.specs.declared.Workload.{Workload}
use Rattle.dt_workload.specs.Valid.{IsValidWorkload}
use Rattle.dt_session.specs.declared.sessions.Seat.{Seat}
use Rattle.dt_session.specs.Sessions.{EachNameIsAnswered, seat_of}
use Rattle.dt_session.specs.Step.{IsLegal, MayAnswer, MayEnd, MaySubmit, MayTry, awaited_at, next, received}
use Rattle.dt_session.specs.World.{Node, Place, World, no_node, node_at, received_of, session_at, txn_of, with_node}
use Rattle.dt_session.specs.Run.{AreLegalFrom, world_after, world_from}
use Rattle.dt_agreement.specs.Invariant.{IsPlaceOf}
use Rattle.dt_agreement.proofs.Callers.{WaitsAt, append_cases, next_keeps, ordered, session_found, waiting_for, world_from_append}
use Rattle.dt_merge.specs.WorldRegions.{HasInvariant}
use Rattle.dt_session.specs.World.{opening_world}
use Rattle.dt_site.specs.SessionsStandIn.{SessionsStandIn, seat_in}
use Rattle.dt_site.specs.Site.{attempts, node_of}
use Rattle.dt_site.specs.declared.Origin.{Origin}
use Rattle.dt_merge.proofs.Callers.{node_there}
use Rattle.dt_node.specs.NodeView.{NodeView, new_items, number_of}
use Rattle.dt_node.specs.NodeInWorld.{AreTold, NodeFits}
use Rattle.dt_node.specs.Turn.{MovesOn}
use Rattle.dt_run.specs.EndOfRun.{IsAllDone}
use Rattle.dt_run.specs.NodesStand.{AreNodes}
use Rattle.dt_run.specs.NodesView.{NodesView, node_in, waiting_at}
use Rattle.dt_run.specs.Phase.{IsPhase}
use Rattle.dt_run.proofs.PlannedPackets.{down}
use Rattle.dt_run.proofs.TurnsInOrder.{goes, good_world, own_events}

-- every call of each session of a region is answered
abbrev AreAnsweredAt : Workload → World → ℕ → Type 0
AreAnsweredAt workload w region = (name : Bytes) (session : Session) (place : Place) → session_at workload.sessions w.places region name ≡ Some (session, place) → place.answered ≡ length session.calls

-- nothing was submitted, the sessions stand where they stood, and what was executed stays so
record GoesQuietly (w v : World) : Type 0 where
  submitted : (q : ℕ) → (node_at v q).submitted ≡ (node_at w q).submitted
  places : v.places ≡ w.places
  done : (q : ℕ) → IsFront (node_at w q).here.done (node_at v q).here.done

module _ {cluster : Cluster} (ok : IsValidCluster cluster) {workload : Workload} (fits : IsValidWorkload cluster workload) (region : ℕ) (lr : region < cluster.regions) where
  module _ (w : World) (good : HasInvariant cluster workload w) (a : AreAnsweredAt workload w region) where
    -- no session waits, and none has a call left
    idle : (name : Bytes) (session : Session) (place : Place) → session_at workload.sessions w.places region name ≡ Some (session, place)
        → ¬ (MayTry cluster.tries (length session.calls) place.answered (awaited_at w region place.waits)) × ¬ (MayEnd cluster.tries (awaited_at w region place.waits))
    idle name session place found = go place.waits refl
      where
        r : Has workload.sessions session × (session.name ≡ name) × (session.region ≡ region) × IsPlaceOf cluster.tries w session place
        r = session_found (IsPlaceOf cluster.tries w) workload.sessions w.places region name session place good.inv.sessions.places found

        all : place.answered ≡ length session.calls
        all = a name session place found

        go : (waits : Option TxnId) → place.waits ≡ waits → ¬ (MayTry cluster.tries (length session.calls) place.answered (awaited_at w region waits)) × ¬ (MayEnd cluster.tries (awaited_at w region waits))
        go None is = (λ lt. omega (arith, lt, all), λ m. m)
        go (Some id) is =
            let wait : WaitsAt cluster w session place id = waiting_for good.inv session place id (subst (λ q. q < cluster.regions) (sym r.2) lr) r.3 is in
            let left : place.answered < length session.calls = wait.left in
            absurd (omega (arith, left, all))

    no_submit : (name : Bytes) (o : Option (Session × Place)) → session_at workload.sessions w.places region name ≡ o → ¬ (MaySubmit cluster w region o)
    no_submit name None e m = m
    no_submit name (Some (session, place)) e m = (idle name session place e).0 m

    no_answer : (name : Bytes) (o : Option (Session × Place)) → session_at workload.sessions w.places region name ≡ o → ¬ (MayAnswer cluster w region o)
    no_answer name None e m = m
    no_answer name (Some (session, place)) e m = (idle name session place e).1 m

    still : GoesQuietly w w
    still = record { submitted = λ q. refl; places = refl; done = λ q. front_refl (node_at w q).here.done }

    -- a step of the region's own that submits nothing and keeps what is done
    changed : (n : Node) → n.submitted ≡ (node_at w region).submitted → IsFront (node_at w region).here.done n.here.done → GoesQuietly w (with_node w region n)
    changed n same front = record { submitted = λ q. field_of_set (λ (x : Node). x.submitted) w.nodes region n no_node same q; places = refl; done = λ q. by q (either_nat q region) }
      where
        by : (q : ℕ) → Either (q ≡ region) → IsFront (node_at w q).here.done (node_at (with_node w region n) q).here.done
        by q (inl is) =
            subst (λ p. IsFront (node_at w p).here.done (node_at (with_node w region n) p).here.done) (sym is)
            (subst (λ (x : Node). IsFront (node_at w region).here.done x.here.done) (sym (get_or-set_same w.nodes region n no_node (node_there good region lr))) front)
        by q (inr n') =
            subst (λ (x : Node). IsFront (node_at w q).here.done x.here.done) (sym (get_or-set_other w.nodes region q n no_node n')) (front_refl (node_at w q).here.done)

    executes : (procs : List ProcTree) (here : Replica) (o : Option Txn) → IsFront here.done (executed procs here o).done
    executes procs here None = front_refl here.done
    executes procs here (Some txn) = front_append here.done _

    appends : (source number : ℕ) → IsLegal cluster workload w (Append region source number) → GoesQuietly w (next cluster workload w (Append region source number))
    appends source number l = elim (append_cases good.inv region source number l.regions.0 l.regions.1 l.allowed) [
      | inl same ↦ subst (GoesQuietly w) (sym same) still
      | inr r ↦ subst (GoesQuietly w) (sym r.2) (changed _ refl (front_refl (node_at w region).here.done))
    ]

    delivers : (home last : ℕ) (b : Bool) → GoesQuietly w (cond b (received w region home last) w)
    delivers home last true = changed _ refl (front_refl (node_at w region).here.done)
    delivers home last false = still

    -- an event of the region
    step : (e : Event) → IsLegal cluster workload w e → region_of e ≡ region → GoesQuietly w (next cluster workload w e)
    step (Submit q name) l is = absurd (no_submit name _ refl (subst (λ r. MaySubmit cluster w r (session_at workload.sessions w.places r name)) is l.allowed))
    step (Append q source number) l is =
        subst (λ r. GoesQuietly w (next cluster workload w (Append r source number))) (sym is) (appends source number (subst (λ r. IsLegal cluster workload w (Append r source number)) is l))
    step (Deliver q home first last) l is =
        subst (λ r. GoesQuietly w (next cluster workload w (Deliver r home first last))) (sym is) (delivers home last (leb first (received_of w region home) && ltb (received_of w region home) last))
    step (Insert q home) l is = subst (λ r. GoesQuietly w (next cluster workload w (Insert r home))) (sym is) (changed _ refl (front_refl (node_at w region).here.done))
    step (Resolve q ids) l is = subst (λ r. GoesQuietly w (next cluster workload w (Resolve r ids))) (sym is) (changed _ refl (front_refl (node_at w region).here.done))
    step (Execute q id) l is = subst (λ r. GoesQuietly w (next cluster workload w (Execute r id))) (sym is) (changed _ refl (executes cluster.procs (node_at w region).here (txn_of w id)))
    step (Answer q name) l is = absurd (no_answer name _ refl (subst (λ r. MayAnswer cluster w r (session_at workload.sessions w.places r name)) is l.allowed))

  -- events of the region
  quietly : (events : List Event) (w : World) → HasInvariant cluster workload w → AreAnsweredAt workload w region → AreLegalFrom cluster workload w events → AllIn (λ e. region_of e ≡ region) events
      → GoesQuietly w (world_from cluster workload w events)
  quietly [] w good a legal mine = still w good a
  quietly (e ∷ events) w good a legal mine =
      let one = step w good a e legal.0 mine.0 in
      let then : HasInvariant cluster workload (next cluster workload w e) = record { order = ordered good.order e; inv = next_keeps ok fits w good.order e legal.0 good.inv } in
      let answered : AreAnsweredAt workload (next cluster workload w e) region = subst (λ p. (name : Bytes) (session : Session) (place : Place)
      → session_at workload.sessions p region name ≡ Some (session, place) → place.answered ≡ length session.calls) (sym one.places) a in
      let rest = quietly events (next cluster workload w e) then answered legal.1 mine.1 in
      record {
        submitted = λ q. rest.submitted q ∙ one.submitted q;
        places = rest.places ∙ one.places;
        done = λ q. front_trans (node_at w q).here.done (node_at (next cluster workload w e) q).here.done (node_at (world_from cluster workload (next cluster workload w e) events) q).here.done (one.done q) (rest.done q);
      }

-- the transactions of attempts
txns_in : (txns : List Txn) (origins : List Origin) → length origins ≡ length txns → map (λ s. s.txn) (attempts txns origins) ≡ txns
txns_in [] origins e = refl
txns_in (t ∷ txns) [] e = absurd (omega (arith, e))
txns_in (t ∷ txns) (o ∷ origins) e = ap (λ l. t ∷ l) (txns_in txns origins (omega (arith, e)))

-- a turn of a node whose sessions are all answered
module _ {cluster : Cluster} {workload : Workload} {events : List Event} {packets : List Packet} {before after : NodeView} (f : NodeFits cluster workload events before) (told : AreTold cluster workload events packets before)
    (t : MovesOn cluster.procs packets before after) (all : EachNameIsAnswered before.sessions) where
  abbrev w : World
  w = world_after cluster workload events

  abbrev v : World
  v = world_after cluster workload (events ++ events_of (new_items before after))

  fits : NodeFits cluster workload (events ++ events_of (new_items before after)) after
  fits = (goes f told t).fits

  answered_before : AreAnsweredAt workload w (number_of before)
  answered_before name session place found = all name (seat_in w (session, place)) (f.sessions.seats name ∙ ap (option_map (seat_in w)) found)

  goes_quietly : GoesQuietly w v
  goes_quietly = subst (GoesQuietly w) (sym (world_from_append cluster workload (opening_world cluster workload) events (events_of (new_items before after))))
      (quietly f.run.sound f.run.fits (number_of before) f.number (events_of (new_items before after)) w (good_world f) answered_before (goes f told t).legal (own_events f told t))

  answered_after : AreAnsweredAt workload v (number_of before)
  answered_after = subst (λ p. (name : Bytes) (session : Session) (place : Place)
      → session_at workload.sessions p (number_of before) name ≡ Some (session, place) → place.answered ≡ length session.calls) (sym goes_quietly.places) answered_before

  -- they still are
  pub still_answered : EachNameIsAnswered after.sessions
  still_answered name seat there = by (session_at workload.sessions v.places (number_of before) name) refl
    where
      k : SessionsStandIn cluster workload v (number_of before) after.sessions
      k = subst (λ q. SessionsStandIn cluster workload v q after.sessions) t.gone.number fits.sessions

      by : (o : Option (Session × Place)) → session_at workload.sessions v.places (number_of before) name ≡ o → seat.answered ≡ length seat.calls
      by None e = let none : seat_of after.sessions name ≡ None = k.seats name ∙ ap (option_map (seat_in v)) e in cc
      by (Some (session, place)) e =
          let both : Some seat ≡ Some (seat_in v (session, place)) = sym there ∙ k.seats name ∙ ap (option_map (seat_in v)) e in
          let same : seat ≡ seat_in v (session, place) = cc in
          subst (λ (s : Seat). s.answered ≡ length s.calls) (sym same) (answered_after name session place e)

  node_after : node_of after.site ≡ node_at v (number_of before)
  node_after = subst (λ q. node_of after.site ≡ node_at v q) t.gone.number fits.site.node

  -- nothing was submitted
  pub still_submitted : after.site.region.state.submitted ≡ before.site.region.state.submitted
  still_submitted =
      sym (txns_in after.site.region.state.submitted after.site.origins fits.site.origins)
      ∙ ap (λ (n : Node). map (λ s. s.txn) n.submitted) node_after ∙ ap (map (λ s. s.txn)) (goes_quietly.submitted (number_of before))
      ∙ sym (ap (λ (n : Node). map (λ s. s.txn) n.submitted) f.site.node) ∙ txns_in before.site.region.state.submitted before.site.origins f.site.origins

  -- what was executed stays so
  pub still_done : (id : TxnId) → Has (done_ids before.site.region.state.here) id → Has (done_ids after.site.region.state.here) id
  still_done id h =
      any_front (λ y. y ≡ id) (done_ids before.site.region.state.here) (done_ids after.site.region.state.here)
      (front_map (λ (d : TxnId × Outcome). d.0) before.site.region.state.here.done after.site.region.state.here.done
      (subst (λ (n : Node). IsFront n.here.done after.site.region.state.here.done) (sym f.site.node)
      (subst (λ (n : Node). IsFront (node_at w (number_of before)).here.done n.here.done) (sym node_after) (goes_quietly.done (number_of before))))) h

-- what is done stays done
module _ {before after : NodesView} (n : AreNodes before)
    (told : (region : ℕ) → region < before.cluster.regions → AreTold before.cluster before.workload (events_of n.all) (waiting_at before region) (node_in before region))
    (phase : IsPhase before after) where
  pub stays_done : IsAllDone before → IsAllDone after
  stays_done d = record {
    answered = λ region lr. let l = down phase lr in still_answered (n.stand region l).fits (told region l) (phase.turns region l) (d.answered region l);
    executed = λ region source lr ls. let l = down phase lr in let m = down phase ls in
        subst (AllIn (λ txn. Has (done_ids (node_in after region).site.region.state.here) txn.id)) (sym (still_submitted (n.stand source m).fits (told source m) (phase.turns source m) (d.answered source m)))
        (all_put _ (node_in before source).site.region.state.submitted (λ txn h. still_done (n.stand region l).fits (told region l) (phase.turns region l) (d.answered region l) txn.id
        (all_get (λ (x : Txn). Has (done_ids (node_in before region).site.region.state.here) x.id) (node_in before source).site.region.state.submitted (d.executed region source l m) txn h)));
  }
