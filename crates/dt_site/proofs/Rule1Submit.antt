-- Rule 1: a session of the region submits its next call, or tries it again.
use Rattle.std.specs.Prelude.{Option, option_map, unwrap_or}
use Rattle.std.proofs.Common.{◌≡◌, ◌<◌, ◌+◌, ℕ, List, [], ◌∷◌, ◌++◌, length, set, slice_get, Ok, Some, None, refl, sym, ap, ap₂, subst, ◌∙◌, inl, inr, append_assoc}
use Rattle.std.proofs.lemmas.List.{length_push, get_or-set_same}
use Rattle.dt_lists.specs.Lists.{Has}
use Rattle.dt_lists.proofs.Callers.{has_last}
use Rattle.dt_access.specs.Clash.{Bytes}
use Rattle.dt_access.specs.declared.TxnId.{TxnId}
use Rattle.dt_events.specs.declared.Event.TheVariants.{Submit}
use Rattle.dt_txn.specs.declared.Txn.{Txn}
use Rattle.dt_txn.specs.Replica.{next_id, submission_for}
use Rattle.dt_region.specs.Region.{held, find_txn, latest_stamp}
use Rattle.dt_region.specs.Rules.{id_for, txn_for}
use Rattle.dt_region.specs.Sound.{IsSoundRegion}
use Rattle.dt_region.proofs.Callers.{kept_more, latest_more}
use Rattle.dt_events.specs.Stamps.{events_of}
use Rattle.dt_cluster.specs.declared.Cluster.{Cluster}
use Rattle.dt_workload.specs.declared.Session.{Session}
use Rattle.dt_workload.specs.declared.Ranked.{Ranked}
use Rattle.dt_workload.specs.declared.Workload.{Workload}
use Rattle.dt_session.specs.Sessions.{attempt_next, waiting}
use Rattle.dt_session.specs.World.{World, Place, Submission, no_node, node_at, attempt_of, received_logs, session_at, submission_of, txn_of, with_place}
use Rattle.dt_session.specs.Step.{IsLegal, MaySubmit, MayTry, attempt_for, awaited_at, body_of, called, next, next_attempt, node_submitted, submitted, upcoming_id, world_submitted}
use Rattle.dt_agreement.proofs.Callers.{from_region, next_keeps, submission_is_found}
use Rattle.dt_site.specs.declared.site.Origin.{Origin}
use Rattle.dt_site.specs.SessionsStandIn.{seat_in}
use Rattle.dt_site.specs.Site.{SiteView, MakesAttempt, after_attempt, attempt, node_of}
use Rattle.dt_site.specs.StandsIn.{IsReached, StandsIn}
use Rattle.dt_site.proofs.Lists.{attempts_more, find_more}
use Rattle.dt_site.proofs.SessionsStand.{StandsElsewhere}
use Rattle.dt_site.proofs.SitesInWorlds.{Steps, here_is, inv, many_here, node_then, order, received_stay, txns_stay}

-- what a submission needs: the session, where it stands, and its call
pub record Submits (cluster : Cluster) (workload : Workload) (w : World) (region : ℕ) (name : Bytes) (session : Session) (place : Place) (call : Ranked) : Type 0 where
  pub found : session_at workload.sessions w.places region name ≡ Some (session, place)
  pub named : session.name ≡ name
  pub may : MayTry cluster.tries (length session.calls) place.answered (awaited_at w region place.waits)
  pub wants : slice_get session.calls place.answered ≡ Some call

-- whose the attempt is
abbrev pub origin_for : World → Bytes → Place → Origin
origin_for w name place = record { session = name; call = place.answered + 1; attempt = next_attempt w place.waits }

module _ {cluster : Cluster} {workload : Workload} {w : World} (k : IsReached cluster workload w) {region : ℕ} (lr : region < cluster.regions) {p : SiteView} (s : StandsIn cluster.regions w region p)
    {name : Bytes} {session : Session} {place : Place} {call : Ranked} (submits : Submits cluster workload w region name session place call) where
  pub submit_legal : IsLegal cluster workload w (Submit region name)
  submit_legal = record { regions = lr; allowed = subst (MaySubmit cluster w region) (sym submits.found) submits.may }

  abbrev new : Submission
  new = attempt_for cluster w region session place call

  abbrev txn : Txn
  txn = txn_for cluster.procs p.region.state call.rank (body_of call.wanted)

  abbrev origin : Origin
  origin = origin_for w name place

  abbrev places : List Place
  places = with_place workload.sessions w.places region session.name (record place { waits = Some new.txn.id })

  pub ids : id_for p.region.state ≡ upcoming_id w region
  ids = ap₂ (λ a b. next_id b a) (sym (many_here k s)) s.number

  txn_is : txn ≡ new.txn
  txn_is = λ j. submission_for cluster.procs (s.number j) ((sym (many_here k s)) j) ((sym (here_is k s)) j) call.rank (body_of call.wanted)

  attempt_is : attempt txn origin ≡ new
  attempt_is = λ j. record { txn = txn_is j; session = (sym submits.named) j; call = place.answered + 1; attempt = next_attempt w place.waits }

  q : SiteView
  q = after_attempt cluster.procs p call.rank (body_of call.wanted) origin

  node_made : node_of q ≡ node_submitted (node_at w region) new
  unfolding q
  node_made =
      ap (λ l. record (node_submitted (node_of p) (attempt txn origin)) { submitted = l }) (attempts_more p.region.state.submitted p.origins txn origin s.origins)
      ∙ ap₂ node_submitted s.node attempt_is

  submitted_is : next cluster workload w (Submit region name) ≡ world_submitted workload w region session place new
  submitted_is = ap (submitted cluster workload w region) submits.found ∙ ap (called cluster workload w region session place) submits.wants

  next_is : next cluster workload w (Submit region name) ≡ record { nodes = set w.nodes region (node_of q); places = places }
  next_is = submitted_is ∙ ap (λ n. record { nodes = set w.nodes region n; places = places }) (sym node_made)

  still : (r : ℕ) → received_logs (next cluster workload w (Submit region name)) r ≡ received_logs w r
  still r = ap (λ v. received_logs v r) submitted_is ∙ received_stay w region (node_submitted (node_at w region) new) places refl refl r

  -- the attempt is found under its id
  new_attempt : submission_of (next cluster workload w (Submit region name)) new.txn.id ≡ Some new
  new_attempt =
      let later = next cluster workload w (Submit region name) in
      let kept = next_keeps k.run.sound k.run.fits w (order k) (Submit region name) submit_legal (inv k) in
      let node_new : node_at (world_submitted workload w region session place new) region ≡ node_submitted (node_at w region) new =
      get_or-set_same w.nodes region (node_submitted (node_at w region) new) no_node (subst (λ n. region < n) (sym (inv k).nodes) lr) in
      submission_is_found cluster.regions later kept.nodes kept.ids new (from_region later region new
      (subst (λ v. Has (node_at v region).submitted new) (sym submitted_is) (subst (λ n. Has n.submitted new) (sym node_new) (has_last (node_at w region).submitted new))))

  new_found : txn_of (next cluster workload w (Submit region name)) new.txn.id ≡ Some new.txn
  new_found = ap (option_map (λ s. s.txn)) new_attempt

  -- so the session waits for the attempt of that number
  waits_next : attempt_of (next cluster workload w (Submit region name)) (upcoming_id w region) ≡ next_attempt w place.waits
  waits_next = ap (λ o. unwrap_or (option_map (λ s. s.attempt) o) 0) new_attempt

  abbrev now : Place
  now = record place { waits = Some (upcoming_id w region) }

  -- and so its region keeps it
  pub waits_as : waiting (seat_in w (session, place)) (upcoming_id w region) ≡ seat_in (next cluster workload w (Submit region name)) (session, now)
  waits_as =
      let number : attempt_next (seat_in w (session, place)) ≡ next_attempt w place.waits = go place.waits in
      let same = number ∙ sym waits_next in
      λ j. record { calls = session.calls; answered = place.answered; waits = Some (record { id = upcoming_id w region; attempt = same j }) }
    where
      go : (waits : Option TxnId) → attempt_next (seat_in w (session, record { answered = place.answered; waits = waits })) ≡ next_attempt w waits
      go None = refl
      go (Some id) = refl

  places_then : (next cluster workload w (Submit region name)).places ≡ places
  places_then = ap (λ v. v.places) next_is

  pub submit_elsewhere : StandsElsewhere workload w (next cluster workload w (Submit region name)) region name session place now
  submit_elsewhere = record { found = submits.found; moved = places_then ∙ ap (λ n. with_place workload.sessions w.places region n now) submits.named }

  known_now : (x : TxnId) (u : Txn) → held q.region.state x ≡ Some u → txn_of (next cluster workload w (Submit region name)) x ≡ Some u
  unfolding q
  known_now x u h = elim (find_more p.region.state.submitted p.region.state.foreign txn x u
      (subst (λ l. find_txn l x ≡ Some u) (append_assoc p.region.state.submitted (txn ∷ []) p.region.state.foreign) h)) [
        | inl o ↦ txns_stay k (Submit region name) submit_legal x u (s.known x u o)
        | inr e ↦ subst (λ y. txn_of (next cluster workload w (Submit region name)) y ≡ Some u) e.1
            (subst (λ y. txn_of (next cluster workload w (Submit region name)) y.id ≡ Some u) (sym txn_is) (new_found ∙ ap Some (sym txn_is ∙ e.0)))
      ]

  number_is : q.region.state.number ≡ region
  unfolding q
  number_is = s.number

  many_is : q.region.state.regions ≡ cluster.regions
  unfolding q
  many_is = s.many

  logs_is : q.region.state.logs ≡ received_logs (next cluster workload w (Submit region name)) region
  unfolding q
  logs_is = s.logs ∙ sym (still region)

  origins_are : length q.origins ≡ length q.region.state.submitted
  unfolding q
  origins_are = length_push p.origins origin ∙ ap (λ n. n + 1) s.origins ∙ sym (length_push p.region.state.submitted txn)

  kept_is : events_of q.region.events ≡ events_of p.region.events ++ Submit region name ∷ []
  unfolding q
  kept_is = kept_more p.region p.region.state (Submit p.region.state.number name) ∙ ap (λ n. events_of p.region.events ++ Submit n name ∷ []) s.number

  stamp_is : latest_stamp q.region ≡ latest_stamp p.region + 1
  unfolding q
  stamp_is = latest_more p.region p.region.state (Submit p.region.state.number name)

  submit_steps : IsSoundRegion q.region.state → Steps cluster workload w (Submit region name) region p q places
  submit_steps sound = record {
    legal = submit_legal;
    is = next_is;
    stands = record {
      number = number_is;
      many = many_is;
      sound = sound;
      logs = logs_is;
      origins = origins_are;
      known = known_now;
      node = node_then k (Submit region name) q lr next_is;
    };
    others = λ r n lq. still r;
    kept = kept_is;
    stamp = stamp_is;
  }

  pub submit_made : (id : TxnId) (r : SiteView) → MakesAttempt cluster.procs p call.rank (body_of call.wanted) (origin_for w name place) (Ok id) r → IsSoundRegion r.region.state
      → Steps cluster workload w (Submit region name) region p r (with_place workload.sessions w.places region session.name (record place { waits = Some id }))
  unfolding q
  submit_made id r m sound =
      let is : q ≡ r = sym m.1 in
      let named : new.txn.id ≡ id = sym (m.0 ∙ ids) in
      subst (λ x. Steps cluster workload w (Submit region name) region p r (with_place workload.sessions w.places region session.name (record place { waits = Some x }))) named
      (subst (λ x. Steps cluster workload w (Submit region name) region p x places) is (submit_steps (subst (λ x. IsSoundRegion x.region.state) (sym is) sound)))
