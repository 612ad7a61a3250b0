-- What follows of a lawful world for the calls on it: its numbers are small, its regions are there, and what its regions keep of
-- a session is what the rules ask.
use Rattle.std.proofs.Common.{◌≡◌, ◌<◌, ◌≤◌, ◌+◌, ◌-◌, ℕ, List, length, get_or, slice_get, Some, None, refl, sym, ap, subst, ◌∙◌, arith}
use Rattle.std.specs.Prelude.{Option, IsSome, option_and_then, option_map}
use Rattle.std.proofs.lemmas.List.{get_or_read}
use Rattle.std.proofs.lemmas.Option.{same_Some}
use Rattle.dt_lists.specs.Lists.{Has}
use Rattle.dt_lists.proofs.Callers.{all_get, at_place, has_place}
use Rattle.dt_access.specs.Clash.{Bytes}
use Rattle.dt_access.specs.declared.TxnId.{TxnId}
use Rattle.dt_txn.specs.declared.Body.{Body}
use Rattle.dt_txn.specs.declared.Outcome.{Outcome}
use Rattle.dt_txn.specs.Transaction.{BodyFits}
use Rattle.dt_region.specs.Region.{RegionState, RegionView, outcome_of}
use Rattle.dt_cluster.specs.declared.Cluster.{Cluster}
use Rattle.dt_workload.specs.declared.Session.{Session}
use Rattle.dt_workload.specs.declared.Ranked.{Ranked}
use Rattle.dt_workload.specs.Valid.{IsValidSession, RankedFits}
use Rattle.dt_session.specs.declared.sessions.Seat.{Seat}
use Rattle.dt_session.specs.Sessions.{IsNext, MayBeAnswered, MayGo, MaySeatEnd, SessionsView, StandsAt, numbers_next, seat_of, waits_of, wanted_of}
use Rattle.dt_session.specs.World.{World, Place, session_at}
use Rattle.dt_session.specs.Step.{MaySubmit, MayTry, awaited_at, next_attempt, ranked_body}
use Rattle.dt_agreement.proofs.Callers.{body_fits, next_call_submits, session_found}
use Rattle.dt_agreement.specs.Invariant.{IsPlaceOf}
use Rattle.dt_site.specs.declared.Origin.{Origin}
use Rattle.dt_site.specs.NextAttempt.{HasNextCall, IsNextHere, last_here}
use Rattle.dt_site.specs.SessionsStandIn.{no_sessions, seat_in}
use Rattle.dt_site.specs.Site.{SiteView}
use Rattle.dt_site.proofs.Callers.{fits_region, inv, kept_here, last_in, may_answer, may_be_answered, may_go, may_submit, numbers_are, outcome_here}
use Rattle.dt_world.specs.WorldInner.{IsLawful, IsNextOf, IsNextTry, MayBeTold, sessions_of, site_at, view_in, world_of}
use Rattle.dt_world.specs.WorldSessions.{WorldSessions, places_in}
use Rattle.dt_world.specs.WorldView.{WorldView}
use Rattle.dt_world.proofs.WorldLaws.{IsBehind}

-- what a call read at a region: its sessions, and the outcome that its site keeps of the attempt that one of them waits for
pub record HasRead (all : List SessionsView) (sites : List SiteView) (region : ℕ) (name : Bytes) (s : SessionsView) (last : Option Outcome) : Type 0 where
  pub sessions_is : s ≡ sessions_of all region
  pub told : last ≡ option_and_then (outcome_of (site_at sites region).region.state) (waits_of (sessions_of all region) name)

-- sessions that were taken out of the list are those at that place
pub sessions_at_place : (all : List SessionsView) (region : ℕ) (s : SessionsView) → region < length all → s ≡ get_or all region s → s ≡ sessions_of all region
sessions_at_place all region s lt e = get_or_read all region s lt e no_sessions

-- so where a session stands at one reading, it stands at another
pub stands_again : (all : List SessionsView) (region : ℕ) → region < length all → (s t : SessionsView) → s ≡ get_or all region s → t ≡ get_or all region t → (place : ℕ) (name : Bytes)
    → StandsAt s place name → StandsAt t place name
stands_again all region lt s t s_at t_at place name = subst (λ x. StandsAt x place name) (sessions_at_place all region s lt s_at ∙ sym (sessions_at_place all region t lt t_at))

pub has_read : {all : List SessionsView} {sites : List SiteView} {region : ℕ} → region < length all → {s : SessionsView} → s ≡ get_or all region s
    → {r : RegionView} {origins : List Origin} → IsBehind sites region r origins → (name : Bytes) {last : Option Outcome} → last ≡ option_and_then (outcome_of r.state) (waits_of s name)
    → HasRead all sites region name s last
has_read {all} {sites} {region} within {s} at site name told =
    let same : s ≡ sessions_of all region = sessions_at_place all region s within at in
    record { sessions_is = same; told = told ∙ (λ j. option_and_then (outcome_of (site.region_is j).state) (waits_of (same j) name)) }

module _ {cluster : Cluster} {sessions : WorldSessions} {sites : List SiteView} {steps : ℕ} (k : IsLawful cluster sessions sites steps) {region : ℕ} (lr : region < cluster.regions) (name : Bytes) where
  abbrev w : World
  w = world_of sites (places_in sessions)

  abbrev here : SessionsView
  here = sessions_of sessions.by_region region

  abbrev found_at : Option (Session × Place)
  found_at = session_at sessions.workload.sessions (places_in sessions) region name

  -- the region's outcomes are those of the world
  outcomes_here : (waits : Option TxnId) → option_and_then (outcome_of (site_at sites region).region.state) waits ≡ last_in w region waits
  outcomes_here None = refl
  outcomes_here (Some id) = outcome_here k.reached (k.stands region lr) id

  module _ (last : Option Outcome) (told : last ≡ option_and_then (outcome_of (site_at sites region).region.state) (waits_of here name)) where
    last_is : last ≡ last_in w region (waits_of here name)
    last_is = told ∙ outcomes_here (waits_of here name)

    pub go_submit : MayGo here name last → MaySubmit cluster w region found_at
    go_submit m = may_submit (k.attended region lr) name (subst (MayGo here name) last_is m)

    pub submit_go : MaySubmit cluster w region found_at → MayGo here name last
    submit_go m = subst (MayGo here name) (sym last_is) (may_go (k.attended region lr) name m)

    pub told_end : MayBeAnswered here name last → MayBeTold (view_in cluster sessions sites steps) region name
    told_end m = may_answer (k.attended region lr) name (subst (MayBeAnswered here name) last_is m)

    pub end_told : MayBeTold (view_in cluster sessions sites steps) region name → MayBeAnswered here name last
    end_told m = subst (MayBeAnswered here name) (sym last_is) (may_be_answered (k.attended region lr) name m)

    -- nothing may be submitted where the region's sessions give nothing
    pub none_next : IsNext here name last None → IsNextOf (view_in cluster sessions sites steps) region name None
    none_next n m = n (submit_go m)

    module _ (call attempt : ℕ) (is : IsNext here name last (Some (call, attempt))) where
      -- where they give numbers, these are of the session's next call and attempt
      record Found : Type 0 where
        session : Session
        place : Place
        wanted : Ranked
        found : found_at ≡ Some (session, place)
        may : MayTry cluster.tries (length session.calls) place.answered (awaited_at w region place.waits)
        wants : slice_get session.calls place.answered ≡ Some wanted
        call_is : call ≡ place.answered + 1
        attempt_is : attempt ≡ next_attempt w place.waits

      found : Found
      found = go found_at refl (go_submit is.0)
        where
          go : (o : Option (Session × Place)) → found_at ≡ o → MaySubmit cluster w region o → Found
          go None e m = absurd m
          go (Some (session, place)) e m = record {
            session = session;
            place = place;
            wanted = wanted.0;
            found = e;
            may = m;
            wants = wanted.1;
            call_is = ap (λ n. n.0) numbers;
            attempt_is = ap (λ n. n.1) numbers;
          }
            where
              seat : seat_of here name ≡ Some (seat_in w (session, place))
              seat = kept_here (k.attended region lr) name e

              numbers : ◌≡◌ {A = ℕ × ℕ} (call, attempt) (place.answered + 1, next_attempt w place.waits)
              numbers =
                  let both : ◌≡◌ {A = Option (ℕ × ℕ)} (Some (call, attempt)) (Some (numbers_next (seat_in w (session, place)))) = sym is.1 ∙ ap (option_map numbers_next) seat in
                  let same : ◌≡◌ {A = ℕ × ℕ} (call, attempt) (numbers_next (seat_in w (session, place))) = same_Some _ _ both in
                  same ∙ numbers_are w session place

              left : place.answered < length session.calls
              left =
                  let r = next_call_submits (inv k.reached) k.reached.run.sound region name (subst (MaySubmit cluster w region) (sym e) m) in
                  let same : ◌≡◌ {A = Option (Session × Place)} (Some (r.session, r.place)) (Some (session, place)) = sym r.found ∙ e in
                  let pair : ◌≡◌ {A = Session × Place} (r.session, r.place) (session, place) = same_Some _ _ same in
                  subst (λ (x : Session × Place). x.1.answered < length x.0.calls) pair r.on.call

              wanted : (c : Ranked) × (slice_get session.calls place.answered ≡ Some c)
              wanted = at_place session.calls place.answered left

      wanted_here : wanted_of here name call ≡ Some found.wanted
      wanted_here =
          ap (option_and_then (λ (x : Seat). slice_get x.calls (call - 1))) (kept_here (k.attended region lr) name found.found)
          ∙ ap (slice_get found.session.calls) (let c : call ≡ found.place.answered + 1 = found.call_is in let e : call - 1 ≡ found.place.answered = omega (arith, c) in e) ∙ found.wants

      pub call_there_is : IsSome (wanted_of here name call)
      call_there_is = subst IsSome (sym wanted_here) refl

      ranked_is : (rank : ℕ) (body : Body) → option_map ranked_body (wanted_of here name call) ≡ Some (rank, body) → ◌≡◌ {A = ℕ × Body} (rank, body) (ranked_body found.wanted)
      ranked_is rank body made = same_Some _ _ (sym made ∙ ap (option_map ranked_body) wanted_here)

      -- so with what that call is to do, it is the session's next try
      pub next_try : (rank : ℕ) (body : Body) (copied : Bytes) → copied ≡ name → option_map ranked_body (wanted_of here name call) ≡ Some (rank, body)
          → IsNextOf (view_in cluster sessions sites steps) region name (Some (record { session = copied; call = call; attempt = attempt }, rank, body))
      next_try rank body copied same made = record {
        session = found.session;
        place = found.place;
        call = found.wanted;
        found = found.found;
        may = found.may;
        wants = found.wants;
        origin_is = λ i. record { session = same i; call = found.call_is i; attempt = found.attempt_is i };
        rank_is = ap (λ r. r.0) (ranked_is rank body made);
        body_is = ap (λ r. r.1) (ranked_is rank body made);
      }

  -- what the region's sessions answer of the name, the rules do

  module _ {s : SessionsView} where
    module _ {last : Option Outcome} (seen : HasRead sessions.by_region sites region name s last) where
      pub told_of : MayBeAnswered s name last → MayBeTold (view_in cluster sessions sites steps) region name
      told_of m = told_end last seen.told (subst (λ x. MayBeAnswered x name last) seen.sessions_is m)

      pub of_told : MayBeTold (view_in cluster sessions sites steps) region name → MayBeAnswered s name last
      of_told m = subst (λ x. MayBeAnswered x name last) (sym seen.sessions_is) (end_told last seen.told m)

    module _ (r : RegionState) (seen : HasRead sessions.by_region sites region name s (last_here s r name)) where
      pub has_next_call : HasNextCall s r name
      has_next_call call attempt is =
          subst (λ x. IsSome (wanted_of x name call)) (sym seen.sessions_is)
          (call_there_is (last_here s r name) seen.told call attempt (subst (λ x. IsNext x name (last_here s r name) (Some (call, attempt))) seen.sessions_is is))

      pub next_of : (o : Option (Origin × ℕ × Body)) → IsNextHere s r name o → IsNextOf (view_in cluster sessions sites steps) region name o
      next_of None n = none_next (last_here s r name) seen.told (subst (λ x. IsNext x name (last_here s r name) None) seen.sessions_is n)
      next_of (Some (origin, rank, body)) n =
          next_try (last_here s r name) seen.told origin.call origin.attempt
          (subst (λ x. IsNext x name (last_here s r name) (Some (origin.call, origin.attempt))) seen.sessions_is n.1) rank body origin.session n.0
          (subst (λ x. option_map ranked_body (wanted_of x name origin.call) ≡ Some (rank, body)) seen.sessions_is n.2)

    -- a session that is not here may not be answered
    pub away_told : s ≡ here → seat_of s name ≡ None → ¬ (MayBeTold (view_in cluster sessions sites steps) region name)
    away_told same away m =
        let last : Option Outcome = option_and_then (outcome_of (site_at sites region).region.state) (waits_of here name) in
        subst (λ o. MaySeatEnd here.tries o last) (ap (λ x. seat_of x name) (sym same) ∙ away) (end_told last refl m)

  -- what is submitted next fits the region, and its rank is one digit

  module _ {origin : Origin} {rank : ℕ} {body : Body} (t : IsNextTry (view_in cluster sessions sites steps) region name origin rank body) where
    call_fits : RankedFits cluster t.call
    call_fits =
        let member : Has sessions.workload.sessions t.session =
        (session_found (IsPlaceOf cluster.tries w) sessions.workload.sessions (places_in sessions) region name t.session t.place (inv k.reached).sessions.places t.found).0 in
        let valid : IsValidSession cluster t.session = all_get (IsValidSession cluster) sessions.workload.sessions k.reached.run.fits.sessions t.session member in
        let called : Has t.session.calls t.call = has_place t.session.calls t.place.answered t.call t.wants in
        all_get (RankedFits cluster) t.session.calls valid.calls t.call called

    pub fits_here : BodyFits cluster.procs (site_at sites region).region.state.here.table.version (site_at sites region).region.state.regions body
    fits_here =
        fits_region k.reached lr (k.stands region lr) body
        (subst (BodyFits cluster.procs cluster.version cluster.regions) (sym t.body_is) (body_fits cluster t.call.wanted call_fits.1))

    pub rank_here : rank ≤ 9
    rank_here = let below : t.call.rank < 10 = call_fits.0 in let is : rank ≡ t.call.rank = t.rank_is in omega (arith, below, is)

-- the same of the world as it is seen

module _ {cluster : Cluster} {sessions : WorldSessions} {sites : List SiteView} {steps : ℕ} (k : IsLawful cluster sessions sites steps) {now : WorldView} (view : view_in cluster sessions sites steps ≡ now) where
  -- a region of the world is among the regions
  pub a_number : {region : ℕ} → region < now.cluster.regions → region < cluster.regions
  a_number {region} lt = subst (λ (v : WorldView). region < v.cluster.regions) (sym view) lt

  pub steps_few : now.steps < 4294967295 → steps < 4294967295
  steps_few lt = subst (λ (v : WorldView). v.steps < 4294967295) (sym view) lt

  -- a region has its sessions in the list
  pub some_sessions : {region : ℕ} → region < cluster.regions → region < length sessions.by_region
  some_sessions {region} lr = subst (λ n. region < n) (sym k.listed) lr
