-- A session submits its next attempt, as the node's sessions allow it, and waits for it.
use Rattle.std.proofs.Common.{◌≡◌, ◌≢◌, ◌<◌, ◌≤◌, ◌+◌, ◌-◌, ℕ, List, [], ◌∷◌, ◌++◌, length, slice_get, Ok, Some, refl, sym, ap, subst, ◌∙◌, arith}
use Rattle.std.specs.Prelude.{IsSome, option_and_then, option_map}
use Rattle.std.proofs.lemmas.List.{length_push}
use Rattle.std.proofs.lemmas.Option.{same_Some}
use Rattle.dt_lists.proofs.Callers.{all_get, has_place}
use Rattle.dt_access.specs.Clash.{Bytes}
use Rattle.dt_access.specs.declared.TxnId.{TxnId}
use Rattle.dt_events.specs.declared.Event.{Event}
use Rattle.dt_events.specs.declared.Event.TheVariants.{Submit}
use Rattle.dt_txn.specs.declared.Body.{Body}
use Rattle.dt_txn.specs.Transaction.{BodyFits}
use Rattle.dt_region.specs.Sound.{IsSoundRegion}
use Rattle.dt_cluster.specs.declared.Cluster.{Cluster}
use Rattle.dt_workload.specs.declared.Workload.{Workload}
use Rattle.dt_workload.specs.Valid.{IsValidSession, RankedFits}
use Rattle.dt_session.specs.declared.sessions.Seat.{Seat}
use Rattle.dt_session.specs.Sessions.{MayGo, after_wait, numbers_next, seat_of, waiting, wanted_of}
use Rattle.dt_session.specs.World.{World, node_at, with_place}
use Rattle.dt_session.specs.Step.{IsLegal, MaySubmit, MayTry, awaited_at, body_of, next, next_attempt, ranked_body, upcoming_id}
use Rattle.dt_session.specs.Run.{world_after}
use Rattle.dt_agreement.proofs.Callers as agreed
use Rattle.dt_site.specs.declared.Origin.{Origin}
use Rattle.dt_site.specs.SessionsStandIn.{SessionsStandIn, seat_in}
use Rattle.dt_site.specs.Site.{SiteView, MakesAttempt}
use Rattle.dt_site.specs.StandsIn.{IsReached}
use Rattle.dt_site.proofs.Callers.{HasShortLists, Steps, Submits, after_more, fits_region, ids, inv, kept_here, legal_short}
use Rattle.dt_site.proofs.Callers.{many_here, numbers_are, origin_for, run_more, sessions_changed, submit_elsewhere, submit_legal, submit_made, waits_as}
use Rattle.dt_node.specs.NodeView.{NodeView, number_of}
use Rattle.dt_node.specs.NodeInWorld.{NodeFits}
use Rattle.dt_node.specs.Turn.{GoesAfter, last_at}
use Rattle.dt_node.specs.Steps.{IsNextAt}
use Rattle.dt_node.proofs.Rule7Answer.{go_submit, seats_kept}
use Rattle.dt_node.proofs.EventsGoOn.{one_goes, reached}

module _ {cluster : Cluster} {workload : Workload} {events : List Event} {a : NodeView} (f : NodeFits cluster workload events a) (name : Bytes) where
  abbrev w : World
  w = world_after cluster workload events

  abbrev k : IsReached cluster workload w
  k = reached f

  -- the world has the session, with its next call
  module _ (may : MayGo a.sessions name (last_at a name)) where
    allowed : agreed.Submits cluster workload w (number_of a) name
    allowed = agreed.next_call_submits (inv k) f.run.sound (number_of a) name (go_submit f name may)

    tries : MayTry cluster.tries (length allowed.session.calls) allowed.place.answered (awaited_at w (number_of a) allowed.place.waits)
    tries = subst (MaySubmit cluster w (number_of a)) allowed.found (go_submit f name may)

    submits : Submits cluster workload w (number_of a) name allowed.session allowed.place allowed.call
    submits = record { found = allowed.found; named = allowed.named; may = tries; wants = allowed.wants }

    abbrev seat : Seat
    seat = seat_in w (allowed.session, allowed.place)

    seat_is : seat_of a.sessions name ≡ Some seat
    seat_is = kept_here f.sessions name allowed.found

    call_fits : RankedFits cluster allowed.call
    call_fits =
        let valid : IsValidSession cluster allowed.session = all_get (IsValidSession cluster) workload.sessions f.run.fits.sessions allowed.session allowed.member in
        all_get (RankedFits cluster) allowed.session.calls valid.calls allowed.call (has_place allowed.session.calls allowed.place.answered allowed.call allowed.wants)

    -- the call that the sessions name is there
    wanted_here : (call : ℕ) → call ≡ allowed.place.answered + 1 → wanted_of a.sessions name call ≡ Some allowed.call
    wanted_here call is =
        ap (option_and_then (λ (x : Seat). slice_get x.calls (call - 1))) seat_is
        ∙ ap (slice_get allowed.session.calls) (let e : call - 1 ≡ allowed.place.answered = omega (arith, is) in e) ∙ allowed.wants

    numbers_here : (call attempt : ℕ) → option_map numbers_next (seat_of a.sessions name) ≡ Some (call, attempt)
        → ◌≡◌ {A = ℕ × ℕ} (call, attempt) (allowed.place.answered + 1, next_attempt w allowed.place.waits)
    numbers_here call attempt is = same_Some _ _ (sym is ∙ ap (option_map numbers_next) seat_is) ∙ numbers_are w allowed.session allowed.place

    pub call_is_there : (call attempt : ℕ) → option_map numbers_next (seat_of a.sessions name) ≡ Some (call, attempt) → IsSome (wanted_of a.sessions name call)
    call_is_there call attempt is = subst IsSome (sym (wanted_here call (ap (λ n. n.0) (numbers_here call attempt is)))) refl

  -- what it submits
  module _ {origin : Origin} {rank : ℕ} {body : Body} (t : IsNextAt a name origin rank body) where
    on : agreed.Submits cluster workload w (number_of a) name
    on = allowed t.may

    numbers : ◌≡◌ {A = ℕ × ℕ} (origin.call, origin.attempt) (on.place.answered + 1, next_attempt w on.place.waits)
    unfolding on
    numbers = numbers_here t.may origin.call origin.attempt t.numbers

    ranked : ◌≡◌ {A = ℕ × Body} (rank, body) (ranked_body on.call)
    unfolding on
    ranked = same_Some _ _ (sym t.wanted ∙ ap (option_map ranked_body) (wanted_here t.may origin.call (ap (λ n. n.0) numbers)))

    rank_is : rank ≡ on.call.rank
    rank_is = ap (λ r. r.0) ranked

    body_is : body ≡ body_of on.call.wanted
    body_is = ap (λ r. r.1) ranked

    origin_is : origin ≡ origin_for w name on.place
    origin_is = λ i. record { session = t.session i; call = (numbers i).0; attempt = (numbers i).1 }

    fits_call : RankedFits cluster on.call
    unfolding on
    fits_call = call_fits t.may

    submits_it : Submits cluster workload w (number_of a) name on.session on.place on.call
    unfolding on
    submits_it = submits t.may

    -- it may be submitted
    pub body_fits_here : BodyFits cluster.procs a.site.region.state.here.table.version a.site.region.state.regions body
    body_fits_here = fits_region k f.number f.site body (subst (BodyFits cluster.procs cluster.version cluster.regions) (sym body_is) (agreed.body_fits cluster on.call.wanted fits_call.1))

    pub rank_fits : rank ≤ 9
    rank_fits = let below : on.call.rank < 10 = fits_call.0 in let is : rank ≡ on.call.rank = rank_is in omega (arith, below, is)

    pub place_fits : length events < 4294967295 → length a.site.region.state.submitted < 4294967295
    place_fits few =
        let short : HasShortLists w (length events) = legal_short cluster f.run.sound workload f.run.fits events f.run.legal in
        let m : length (node_at w (number_of a)).submitted ≡ length a.site.region.state.submitted = many_here k f.site in
        let s : length (node_at w (number_of a)).submitted ≤ length events = short.submitted (number_of a) in
        omega (arith, few, m, s)

    -- it was submitted under this id
    module _ (id : TxnId) (q : SiteView) (made : MakesAttempt cluster.procs a.site rank body origin (Ok id) q) (sound : IsSoundRegion q.region.state) where
      of_call : MakesAttempt cluster.procs a.site on.call.rank (body_of on.call.wanted) (origin_for w name on.place) (Ok id) q
      of_call =
          subst (λ x. MakesAttempt cluster.procs a.site x (body_of on.call.wanted) (origin_for w name on.place) (Ok id) q) rank_is
          (subst (λ x. MakesAttempt cluster.procs a.site rank x (origin_for w name on.place) (Ok id) q) body_is
          (subst (λ x. MakesAttempt cluster.procs a.site rank body x (Ok id) q) origin_is made))

      legal : IsLegal cluster workload w (Submit (number_of a) name)
      legal = submit_legal k f.number f.site submits_it

      steps : Steps cluster workload w (Submit (number_of a) name) (number_of a) a.site q (with_place workload.sessions w.places (number_of a) on.session.name (record on.place { waits = Some id }))
      steps = submit_made k f.number f.site submits_it id q of_call sound

      id_is : id ≡ upcoming_id w (number_of a)
      id_is = of_call.0 ∙ ids k f.number f.site submits_it

      standing : SessionsStandIn cluster workload (next cluster workload w (Submit (number_of a) name)) (number_of a) (after_wait a.sessions name id)
      standing = subst (λ x. SessionsStandIn cluster workload (next cluster workload w (Submit (number_of a) name)) (number_of a) (after_wait a.sessions name x)) (sym id_is)
          (sessions_changed k (Submit (number_of a) name) legal f.number (submit_elsewhere k f.number f.site submits_it) (λ seat. waiting seat (upcoming_id w (number_of a))) f.sessions
          (waits_as k f.number f.site submits_it))

      -- one attempt more stands among those that the region submitted, so the world is another one
      changed : next cluster workload w (Submit (number_of a) name) ≢ w
      changed same =
          let v : World = next cluster workload w (Submit (number_of a) name) in
          let then : IsReached cluster workload v = record { events = events ++ Submit (number_of a) name ∷ []; run = run_more k (Submit (number_of a) name) legal; after = after_more k (Submit (number_of a) name) } in
          let before : length (node_at w (number_of a)).submitted ≡ length a.site.region.state.submitted = many_here k f.site in
          let after : length (node_at v (number_of a)).submitted ≡ length q.region.state.submitted = many_here then steps.stands in
          let more : length q.region.state.submitted ≡ length a.site.region.state.submitted + 1 = ap (λ (x : SiteView). length x.region.state.submitted) made.1 ∙ length_push a.site.region.state.submitted _ in
          let still : length (node_at v (number_of a)).submitted ≡ length (node_at w (number_of a)).submitted = ap (λ u. length (node_at u (number_of a)).submitted) same in
          absurd (omega (arith, before, after, more, still))

      pub submit_goes : GoesAfter cluster workload events (Submit (number_of a) name ∷ []) (record a { site = q; sessions = after_wait a.sessions name id })
      submit_goes = one_goes f (Submit (number_of a) name) steps changed standing (ap (λ (x : SiteView). x.region.state.number) made.1)
          (seats_kept (λ seat. waiting seat id) a.sessions name (seat_of a.sessions name)) refl refl
