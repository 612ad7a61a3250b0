-- Where nothing is outstanding between the nodes of a world and none of them has anything to do by itself, all is done: each log
-- has all its requests and each region has inserted all logs, so all that was submitted is complete everywhere and executed; and
-- then a session that still had a call left could go on.
use Rattle.std.proofs.Common.{◌≡◌, ◌≢◌, ◌<◌, ◌≤◌, ◌⊎◌, ℕ, true, eqb, List, [], length, get_or, take, Option, None, Some, option_map, refl, sym, ap, subst, ◌∙◌, inl}
use Rattle.std.proofs.Common.{inr, arith, eq-eqb}
use Rattle.std.specs.Prelude.{option_and_then, slice_index}
use Rattle.std.proofs.lemmas.List.{take_all}
use Rattle.dt_lists.specs.Lists.{AnyIn, Either, Has}
use Rattle.dt_lists.proofs.Callers.{all_any, all_get, all_put, any_at, any_from_at, any_get, any_map, any_of_image, any_put, either_nat, has_filter, has_map, has_of_filtered, test_of_any}
use Rattle.dt_access.specs.Clash.{Bytes}
use Rattle.dt_access.specs.declared.Part.{Part}
use Rattle.dt_access.specs.declared.TxnId.{TxnId}
use Rattle.dt_sched.specs.Views.{HasPart, HasParts, IsClosed, IsComplete, IsPresent, View, ids_of, log_at}
use Rattle.dt_sched.proofs.Callers.{done_where_closed, reach_source}
use Rattle.dt_events.specs.declared.Event.{Event}
use Rattle.dt_txn.specs.declared.Outcome.{Outcome}
use Rattle.dt_txn.specs.declared.outcome.Outcome.TheVariants.{Gave, Aborted, Stale}
use Rattle.dt_txn.specs.declared.Txn.{Txn}
use Rattle.dt_txn.specs.Replica.{IsDrained, Replica, done_ids, taken_from}
use Rattle.dt_txn.specs.Transaction.{IsValid, homes_of}
use Rattle.dt_txn.proofs.Callers.{fronts_at}
use Rattle.dt_region.specs.Region.{outcome_of}
use Rattle.dt_region.proofs.Callers.{fronts_length}
use Rattle.dt_cluster.specs.declared.Cluster.{Cluster}
use Rattle.dt_workload.specs.declared.Session.{Session}
use Rattle.dt_workload.specs.declared.Workload.{Workload}
use Rattle.dt_session.specs.declared.sessions.Seat.{Seat}
use Rattle.dt_session.specs.Sessions.{EachNameIsAnswered, MayBeAnswered, MayGo, seat_of, waits_of}
use Rattle.dt_session.specs.Step.{IsLast, IsStale, MayAnswer, MayEnd, MaySubmit, MayTry, awaited_at}
use Rattle.dt_session.specs.World.{Node, Place, Submission, World, asked_of, attempt_of, log_of, logs_of, node_at, outcome_at, received_logs, received_of, session_at, submissions, taken_of, txn_of, view_at}
use Rattle.dt_session.specs.Run.{world_after}
use Rattle.dt_agreement.specs.Invariant.{IsPartAt, IsPlaceOf, given_by, has_home}
use Rattle.dt_agreement.proofs.Callers.{WaitsAt, home_region, logs_length, received_log, received_own, session_found, transaction_valid, txn_there, waiting_for}
use Rattle.dt_merge.specs.WorldRegions.{HasInvariant}
use Rattle.dt_site.specs.SessionsStandIn.{SessionsStandIn, seat_in}
use Rattle.dt_site.specs.Site.{node_of}
use Rattle.dt_site.proofs.Callers.{last_in, may_be_answered, may_go, outcome_here}
use Rattle.dt_node.specs.NodeView.{number_of}
use Rattle.dt_node.specs.NodeInWorld.{NodeFits}
use Rattle.dt_node.specs.Turn.{HasPlacedOwn, IsStill, last_at}
use Rattle.dt_run.specs.EndOfRun.{HasDone}
use Rattle.dt_run.specs.NodesView.{NodesView, node_in}
use Rattle.dt_run.specs.Silence.{HasArrived}
use Rattle.dt_run.proofs.Laws.{reached}
use Rattle.dt_run.proofs.TurnsInOrder.{good_world, received_here}
use Rattle.dt_run.proofs.SentPackets.{held_submitted}
use Rattle.dt_run.proofs.SomeHome.{some_home}
use Rattle.dt_run.proofs.DoneSubmissions.{no_outcome}

-- the nodes stand in a world, nothing is outstanding between them, and none has anything to do by itself
pub record AreAtRest (cluster : Cluster) (workload : Workload) (events : List Event) (v : NodesView) : Type 0 where
  pub number : (region : ℕ) → region < cluster.regions → number_of (node_in v region) ≡ region
  pub fits : (region : ℕ) → region < cluster.regions → NodeFits cluster workload events (node_in v region)
  pub drained : (region : ℕ) → region < cluster.regions → IsDrained (node_in v region).site.region.state.logs (node_in v region).site.region.state.here
  pub placed : (region : ℕ) → region < cluster.regions → HasPlacedOwn (node_in v region)
  pub arrived : (source target : ℕ) → source < cluster.regions → target < cluster.regions → source ≢ target → HasArrived v source target

-- a log has a part of the transaction, and the logs of that part's homes have theirs in the view
abbrev HasWhole : View → TxnId → List Part → Type 0
HasWhole view id = AnyIn (λ (q : Part). (q.id ≡ id) × HasParts view q.homes id)

module _ {cluster : Cluster} {workload : Workload} {events : List Event} (some : 0 < cluster.regions) {v : NodesView} (rest : AreAtRest cluster workload events v) where
  abbrev w : World
  w = world_after cluster workload events

  good : HasInvariant cluster workload w
  good = good_world (rest.fits 0 some)

  node_is : (region : ℕ) → region < cluster.regions → node_of (node_in v region).site ≡ node_at w region
  node_is region lr = subst (λ r. node_of (node_in v region).site ≡ node_at w r) (rest.number region lr) (rest.fits region lr).site.node

  here_is : (region : ℕ) → region < cluster.regions → (node_in v region).site.region.state.here ≡ (node_at w region).here
  here_is region lr = ap (λ (x : Node). x.here) (node_is region lr)

  -- all requests are placed

  taken_is : (home source : ℕ) → home < cluster.regions → taken_of w home source ≡ taken_from (node_in v home).site.region.state.here source
  taken_is home source lh = sym (ap (λ (x : Node). taken_from x.here source) (node_is home lh))

  asked_is : (source home : ℕ) → source < cluster.regions → get_or (node_in v source).site.region.state.here.asked home [] ≡ asked_of w source home
  asked_is source home ls = ap (λ (x : Node). get_or x.here.asked home []) (node_is source ls)

  all_taken : (home source : ℕ) → home < cluster.regions → source < cluster.regions → taken_of w home source ≡ length (asked_of w source home)
  all_taken home source lh ls = by (either_nat home source)
    where
      by : Either (home ≡ source) → taken_of w home source ≡ length (asked_of w source home)
      by (inl same) =
          let p : length (get_or (node_in v home).site.region.state.here.asked home []) ≡ taken_from (node_in v home).site.region.state.here home =
          subst (λ q. length (get_or (node_in v home).site.region.state.here.asked q []) ≡ taken_from (node_in v home).site.region.state.here q) (rest.number home lh) (rest.placed home lh) in
          subst (λ q. taken_of w home q ≡ length (asked_of w q home)) same (taken_is home home lh ∙ sym p ∙ ap length (asked_is home home lh))
      by (inr apart) = taken_is home source lh ∙ (rest.arrived source home ls lh (λ e. apart (sym e))).requests ∙ ap length (asked_is source home ls)

  -- all logs are received, and inserted

  own_log : (home : ℕ) → home < cluster.regions → log_at (node_in v home).site.region.state.logs home ≡ log_of w home
  own_log home lh = subst (λ q. log_at (node_in v home).site.region.state.logs q ≡ log_of w home) (rest.number home lh) (ap (λ (x : Node). x.log) (node_is home lh))

  received_is : (region home : ℕ) → region < cluster.regions → home < cluster.regions → received_of w region home ≡ length (log_at (node_in v region).site.region.state.logs home)
  received_is region home lr lh = subst (λ q. received_of w q home ≡ length (log_at (node_in v region).site.region.state.logs home)) (rest.number region lr) (received_here (rest.fits region lr) home lh)

  all_received : (region home : ℕ) → region < cluster.regions → home < cluster.regions → received_of w region home ≡ length (log_of w home)
  all_received region home lr lh = by (either_nat region home)
    where
      by : Either (region ≡ home) → received_of w region home ≡ length (log_of w home)
      by (inl same) = subst (λ q. received_of w region q ≡ length (log_of w q)) same (received_own w region (subst (λ m. region < m) (sym (good.inv.sized region lr).received) lr))
      by (inr apart) = received_is region home lr lh ∙ (rest.arrived home region lh lr (λ e. apart (sym e))).log ∙ ap length (own_log home lh)

  all_inserted : (region home : ℕ) → region < cluster.regions → home < cluster.regions → slice_index (node_at w region).here.inserted home ≡ length (log_of w home)
  all_inserted region home lr lh =
      subst (λ (r : Replica). slice_index r.inserted home ≡ length (log_of w home)) (here_is region lr)
      ((rest.drained region lr).inserted home ∙ sym (received_is region home lr lh) ∙ all_received region home lr lh)

  -- so the view of each region is that of all logs
  view_log : (region home : ℕ) → region < cluster.regions → home < cluster.regions → log_at (view_at w region) home ≡ log_of w home
  view_log region home lr lh =
      let a : slice_index (node_at w region).here.inserted home ≡ length (log_of w home) = all_inserted region home lr lh in
      let b : received_of w region home ≡ length (log_of w home) = all_received region home lr lh in
      fronts_at (node_at w region).here.inserted (received_logs w region) home
      ∙ ap (take (slice_index (node_at w region).here.inserted home)) (received_log w region home ∙ take_all (received_of w region home) (log_of w home) (omega (arith, b)))
      ∙ take_all (slice_index (node_at w region).here.inserted home) (log_of w home) (omega (arith, a))

  view_long : (region : ℕ) → length (view_at w region) ≡ cluster.regions
  view_long region = fronts_length (node_at w region).here.inserted (received_logs w region) ∙ fronts_length _ (logs_of w) ∙ logs_length w ∙ good.inv.nodes

  -- what was submitted has a part in the log of each of its homes
  has_part : (source home : ℕ) → source < cluster.regions → home < cluster.regions → (s : Submission) → Has (node_at w source).submitted s → Has (homes_of s.txn) home → HasPart (log_of w home) s.txn.id
  has_part source home ls lh s h at =
      let test : has_home home s.txn ≡ true = test_of_any (λ x. eqb x home) (homes_of s.txn) (any_map _ _ (homes_of s.txn) (λ x e. eq-eqb x home e) at) in
      let asked : Has (asked_of w source home) s.txn.id = subst (λ l. Has l s.txn.id) (sym (good.inv.asked source home ls lh))
      (has_map (λ (x : Submission). x.txn.id) _ s (has_filter (λ x. has_home home x.txn) (node_at w source).submitted s h test)) in
      let many : taken_of w home source ≡ length (asked_of w source home) = all_taken home source lh ls in
      let given : given_by source (ids_of (log_of w home)) ≡ asked_of w source home =
      (good.inv.logs home lh).given source ls ∙ take_all (taken_of w home source) (asked_of w source home) (omega (arith, many)) in
      any_of_image (λ y. y ≡ s.txn.id) (λ (p : Part). p.id) (log_of w home)
      (has_of_filtered (λ (x : TxnId). eqb x.region source) (ids_of (log_of w home)) s.txn.id (subst (λ l. Has l s.txn.id) (sym given) asked)).0

  -- so it is complete in each view
  complete : (region : ℕ) → region < cluster.regions → (id : TxnId) (txn : Txn) → txn_of w id ≡ Some txn → IsComplete (view_at w region) id
  complete region lr id txn e = made (txn_there w id txn e)
    where
      valid : IsValid cluster.procs cluster.version cluster.regions txn
      valid = (transaction_valid good.inv id txn e).0

      within : (home : ℕ) → Has (homes_of txn) home → home < cluster.regions
      within home h = all_get (λ x. x < cluster.regions) (homes_of txn) valid.homes home h

      made : ((s : Submission) × Has (submissions w) s × (s.txn ≡ txn) × (s.txn.id ≡ id)) → IsComplete (view_at w region) id
      made r =
          any_from_at (HasWhole (view_at w region) id) [] (view_at w region) home.0 (λ x. x)
          (subst (HasWhole (view_at w region) id) (sym (view_log region home.0 lr (within home.0 home.1)))
          (any_put _ (log_of w home.0) p.0 p.1 (p.2, subst (λ l. HasParts (view_at w region) l id) (sym homes_are) (all_put _ (homes_of txn) each))))
        where
          stands : (r.0.txn.id.region < cluster.regions) × Has (node_at w r.0.txn.id.region).submitted r.0
          stands = home_region cluster.regions w good.inv.nodes good.inv.ids r.0 r.1

          part_there : (home : ℕ) → Has (homes_of txn) home → HasPart (log_of w home) id
          part_there home h = subst (HasPart (log_of w home)) r.3 (has_part r.0.txn.id.region home stands.0 (within home h) r.0 stands.1 (subst (λ t. Has (homes_of t) home) (sym r.2) h))

          each : (home : ℕ) → Has (homes_of txn) home → HasPart (log_at (view_at w region) home) id
          each home h = subst (λ l. HasPart l id) (sym (view_log region home lr (within home h))) (part_there home h)

          home : (h : ℕ) × Has (homes_of txn) h
          home = some_home valid

          p : (q : Part) × Has (log_of w home.0) q × (q.id ≡ id)
          p = any_get (λ (q : Part). q.id ≡ id) (log_of w home.0) (part_there home.0 home.1)

          part : IsPartAt w home.0 p.0
          part = all_get (IsPartAt w home.0) (log_of w home.0) (good.inv.logs home.0 (within home.0 home.1)).parts p.0 p.1

          homes_are : p.0.homes ≡ homes_of txn
          homes_are =
              let both : Some part.0 ≡ Some txn = sym part.1 ∙ ap (txn_of w) p.2 ∙ e in
              let same : part.0 ≡ txn = cc in
              ap (λ (q : Part). q.homes) part.2 ∙ ap homes_of same

  -- and so is all that reaches it
  closed : (region : ℕ) → region < cluster.regions → (id : TxnId) (txn : Txn) → txn_of w id ≡ Some txn → IsClosed (view_at w region) id
  closed region lr id txn e u reach = by (reach_source (view_at w region) reach)
    where
      by : (u ≡ id) ⊎ IsPresent (view_at w region) u → IsComplete (view_at w region) u
      by (inl same) = subst (IsComplete (view_at w region)) (sym same) (complete region lr id txn e)
      by (inr present) =
          let r : (h : ℕ) × (h < length (view_at w region)) × HasPart (log_at (view_at w region) h) u = any_at (λ log. HasPart log u) [] (view_at w region) present in
          let lh : r.0 < cluster.regions = subst (λ n. r.0 < n) (view_long region) r.1 in
          let a : (p : Part) × Has (log_of w r.0) p × IsPartAt w r.0 p × (p.id ≡ u) =
          all_any (IsPartAt w r.0) (λ (p : Part). p.id ≡ u) (log_of w r.0) (good.inv.logs r.0 lh).parts (subst (λ l. HasPart l u) (view_log region r.0 lr lh) r.2) in
          complete region lr u a.2.0 (subst (λ i. txn_of w i ≡ Some a.2.0) a.3 a.2.1)

  -- so it is executed
  executed : (region : ℕ) → region < cluster.regions → (id : TxnId) (txn : Txn) → txn_of w id ≡ Some txn → Has (done_ids (node_at w region).here) id
  executed region lr id txn e =
      (done_where_closed (view_at w region) (node_at w region).here.resolved (done_ids (node_at w region).here) (good.inv.sound region lr).done_closed
      (record { none_executable = at.executed; none_resolvable = at.resolved }) id).1 (closed region lr id txn e)
    where
      logs_are : (node_in v region).site.region.state.logs ≡ received_logs w region
      logs_are = subst (λ q. (node_in v region).site.region.state.logs ≡ received_logs w q) (rest.number region lr) (rest.fits region lr).site.logs

      at : IsDrained (received_logs w region) (node_at w region).here
      at = subst (λ l. IsDrained l (node_at w region).here) logs_are (subst (IsDrained (node_in v region).site.region.state.logs) (here_is region lr) (rest.drained region lr))

  done_here : (region : ℕ) → region < cluster.regions → (id : TxnId) (txn : Txn) → txn_of w id ≡ Some txn → Has (done_ids (node_in v region).site.region.state.here) id
  done_here region lr id txn e = subst (λ (r : Replica). Has (done_ids r) id) (sym (here_is region lr)) (executed region lr id txn e)

  -- each region has executed what each submitted
  pub all_executed : (region source : ℕ) → region < cluster.regions → source < cluster.regions → HasDone (node_in v region) (node_in v source)
  all_executed region source lr ls = all_put _ (node_in v source).site.region.state.submitted
      (λ t h. done_here region lr t.id t ((rest.fits source ls).site.known t.id t (held_submitted (node_in v source).site.region.state (rest.fits source ls).site.sound t h)))

  -- each session is answered, if none can go on
  module _ (region : ℕ) (lr : region < cluster.regions) (still : (name : Bytes) → IsStill (node_in v region) name) where
    stand : SessionsStandIn cluster workload w region (node_in v region).sessions
    stand = subst (λ q. SessionsStandIn cluster workload w q (node_in v region).sessions) (rest.number region lr) (rest.fits region lr).sessions

    outcome_is : (id : TxnId) → outcome_of (node_in v region).site.region.state id ≡ outcome_at w region id
    outcome_is id = subst (λ q. outcome_of (node_in v region).site.region.state id ≡ outcome_at w q id) (rest.number region lr) (outcome_here (reached (rest.fits region lr)) (rest.fits region lr).site id)

    last_is : (name : Bytes) → last_in w region (waits_of (node_in v region).sessions name) ≡ last_at (node_in v region) name
    last_is name = go (waits_of (node_in v region).sessions name)
      where
        go : (o : Option TxnId) → option_and_then (outcome_at w region) o ≡ option_and_then (outcome_of (node_in v region).site.region.state) o
        go None = refl
        go (Some id) = sym (outcome_is id)

    no_submit : (name : Bytes) → ¬ (MaySubmit cluster w region (session_at workload.sessions w.places region name))
    no_submit name m = (still name).no_submission (subst (MayGo (node_in v region).sessions name) (last_is name) (may_go stand name m))

    no_answer : (name : Bytes) → ¬ (MayAnswer cluster w region (session_at workload.sessions w.places region name))
    no_answer name m = (still name).unanswered (subst (MayBeAnswered (node_in v region).sessions name) (last_is name) (may_be_answered stand name m))

    module _ (name : Bytes) (session : Session) (place : Place) (found : session_at workload.sessions w.places region name ≡ Some (session, place)) where
      its : Has workload.sessions session × (session.name ≡ name) × (session.region ≡ region) × IsPlaceOf cluster.tries w session place
      its = session_found (IsPlaceOf cluster.tries w) workload.sessions w.places region name session place good.inv.sessions.places found

      cant_try : (waits : Option TxnId) → place.waits ≡ waits → ¬ (MayTry cluster.tries (length session.calls) place.answered (awaited_at w region waits))
      cant_try waits is m = no_submit name (subst (MaySubmit cluster w region) (sym found) (subst (λ o. MayTry cluster.tries (length session.calls) place.answered (awaited_at w region o)) (sym is) m))

      cant_end : (waits : Option TxnId) → place.waits ≡ waits → ¬ (MayEnd cluster.tries (awaited_at w region waits))
      cant_end waits is m = no_answer name (subst (MayAnswer cluster w region) (sym found) (subst (λ o. MayEnd cluster.tries (awaited_at w region o)) (sym is) m))

      -- an attempt that it waited for would be executed here, so it could go on
      no_wait : (id : TxnId) → place.waits ≡ Some id → ⊥
      no_wait id is = by (outcome_at w region id) refl
        where
          wait : WaitsAt cluster w session place id
          wait = waiting_for good.inv session place id (subst (λ q. q < cluster.regions) (sym its.2) lr) its.3 is

          is_done : Has (done_ids (node_in v region).site.region.state.here) id
          is_done = done_here region lr id wait.submission.txn (ap (option_map (λ (s : Submission). s.txn)) wait.found)

          few : attempt_of w id ≤ cluster.tries
          few = let a = wait.attempt in let b = wait.attempt_to in omega (arith, a, b)

          end : (o : Outcome) → outcome_at w region id ≡ Some o → IsLast cluster.tries (attempt_of w id) (Some o) → ⊥
          end o e l = cant_end (Some id) is (subst (IsLast cluster.tries (attempt_of w id)) (sym e) l)

          stale : (unit : Bytes) (had : ℕ) (at : TxnId) → outcome_at w region id ≡ Some (Stale unit had at) → Either (attempt_of w id ≡ cluster.tries) → ⊥
          stale unit had at e (inl last) = end (Stale unit had at) e last
          stale unit had at e (inr more) = cant_try (Some id) is (subst IsStale (sym e) tt, omega (arith, more, few))

          by : (o : Option Outcome) → outcome_at w region id ≡ o → ⊥
          by None e = no_outcome (node_in v region).site.region.state id (outcome_is id ∙ e) is_done
          by (Some (Gave values)) e = end (Gave values) e tt
          by (Some (Aborted cause)) e = end (Aborted cause) e tt
          by (Some (Stale unit had at)) e = stale unit had at e (either_nat (attempt_of w id) cluster.tries)

      place_answered : place.answered ≡ length session.calls
      place_answered = by place.waits refl (either_nat place.answered (length session.calls))
        where
          by : (waits : Option TxnId) → place.waits ≡ waits → Either (place.answered ≡ length session.calls) → place.answered ≡ length session.calls
          by waits is (inl e) = e
          by (Some id) is (inr n) = absurd (no_wait id is)
          by None is (inr n) = absurd (cant_try None is (let a = its.3.answered in omega (arith, a, n)))

    pub all_answered : EachNameIsAnswered (node_in v region).sessions
    all_answered name seat there = by (session_at workload.sessions w.places region name) refl
      where
        by : (o : Option (Session × Place)) → session_at workload.sessions w.places region name ≡ o → seat.answered ≡ length seat.calls
        by None e = let none : seat_of (node_in v region).sessions name ≡ None = stand.seats name ∙ ap (option_map (seat_in w)) e in cc
        by (Some (session, place)) e =
            let both : Some seat ≡ Some (seat_in w (session, place)) = sym there ∙ stand.seats name ∙ ap (option_map (seat_in w)) e in
            let same : seat ≡ seat_in w (session, place) = cc in
            subst (λ (s : Seat). s.answered ≡ length s.calls) (sym same) (place_answered name session place e)
