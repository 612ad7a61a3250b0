-- Rule 1 in a world: a session submits an attempt at its region's site, and its region keeps that it waits for it. At the
-- end stands what the call needs on its way, of what it has in hand.
use Rattle.std.proofs.Common.{◌≡◌, ◌<◌, ◌≤◌, ℕ, List, length, get_or, set, Ok, Some, None, refl, sym, ap, subst, ◌∙◌, inl, inr, arith}
use Rattle.std.specs.Prelude.{Option, option_and_then}
use Rattle.std.proofs.lemmas.List.{get_or-set_same, get_or-set_other, length-set}
use Rattle.dt_lists.specs.Lists.{Either}
use Rattle.dt_lists.proofs.Callers.{either_nat}
use Rattle.dt_access.specs.Clash.{Bytes}
use Rattle.dt_access.specs.declared.TxnId.{TxnId}
use Rattle.dt_events.specs.declared.Event.TheVariants.{Submit}
use Rattle.dt_txn.specs.declared.Body.{Body}
use Rattle.dt_txn.specs.declared.Outcome.{Outcome}
use Rattle.dt_txn.specs.Transaction.{BodyFits}
use Rattle.dt_region.specs.Region.{RegionView, outcome_of}
use Rattle.dt_region.specs.Sound.{IsSoundRegion}
use Rattle.dt_cluster.specs.declared.Cluster.{Cluster}
use Rattle.dt_session.specs.Sessions.{MayGo, SessionsView, after_wait, waiting, waits_of}
use Rattle.dt_session.specs.World.{World}
use Rattle.dt_session.specs.Step.{IsLegal, MaySubmit, body_of, next, upcoming_id}
use Rattle.dt_agreement.proofs.Callers.{session_found}
use Rattle.dt_agreement.specs.Invariant.{IsPlaceOf}
use Rattle.dt_site.specs.declared.Origin.{Origin}
use Rattle.dt_site.specs.SessionsStandIn.{SessionsStandIn, no_sessions}
use Rattle.dt_site.specs.Site.{SiteView, MakesAttempt, no_site}
use Rattle.dt_site.proofs.Callers.{StandsElsewhere, Submits, ids, inv, origin_for, others_sessions, sessions_changed, submit_elsewhere, submit_legal, submit_made, waits_as}
use Rattle.dt_world.specs.WorldInner.{IsLawful, IsNextOf, IsNextTry, sessions_of, site_at, view_in, world_of}
use Rattle.dt_world.specs.WorldSessions.{WorldSessions, places_in}
use Rattle.dt_world.specs.WorldView.{WorldView}
use Rattle.dt_world.proofs.WorldFacts.{fits_here, rank_here, sessions_at_place, submit_go}
use Rattle.dt_world.proofs.WorldLaws.{IsMade, a_site, behind, read_at, sessions_made, submitted_few}

module _ {cluster : Cluster} {sessions : WorldSessions} {sites : List SiteView} {steps : ℕ} (k : IsLawful cluster sessions sites steps) {region : ℕ} (lr : region < cluster.regions)
    (name : Bytes) {origin : Origin} {rank : ℕ} {body : Body} (next_is : IsNextTry (view_in cluster sessions sites steps) region name origin rank body) where
  abbrev w : World
  w = world_of sites (places_in sessions)

  named : next_is.session.name ≡ name
  named = (session_found (IsPlaceOf cluster.tries w) sessions.workload.sessions w.places region name next_is.session next_is.place (inv k.reached).sessions.places next_is.found).1

  submits : Submits cluster sessions.workload w region name next_is.session next_is.place next_is.call
  submits = record { found = next_is.found; named = named; may = next_is.may; wants = next_is.wants }

  pub try_legal : IsLegal cluster sessions.workload w (Submit region name)
  try_legal = submit_legal k.reached lr (k.stands region lr) submits

  abbrev id' : TxnId
  id' = upcoming_id w region

  -- the world after it
  abbrev v : World
  v = next cluster sessions.workload w (Submit region name)

  elsewhere : StandsElsewhere sessions.workload w v region name next_is.session next_is.place (record next_is.place { waits = Some id' })
  elsewhere = submit_elsewhere k.reached lr (k.stands region lr) submits

  -- the sessions of the region, and of each region, after this one waits for the attempt
  abbrev waiting_here : TxnId → SessionsView
  waiting_here = after_wait (sessions_of sessions.by_region region) name

  abbrev later : TxnId → List SessionsView
  later id = set sessions.by_region region (waiting_here id)

  standing : (r : ℕ) → r < cluster.regions → SessionsStandIn cluster sessions.workload v r (sessions_of (later id') r)
  standing r lq = at (either_nat r region)
    where
      at : Either (r ≡ region) → SessionsStandIn cluster sessions.workload v r (sessions_of (later id') r)
      at (inl e) = subst (λ x. SessionsStandIn cluster sessions.workload v x (sessions_of (later id') x)) (sym e)
          (subst (SessionsStandIn cluster sessions.workload v region)
          (sym (get_or-set_same sessions.by_region region (waiting_here id') no_sessions (subst (λ n. region < n) (sym k.listed) lr)))
          (sessions_changed k.reached (Submit region name) try_legal lr elsewhere (λ seat. waiting seat id') (k.attended region lr) (waits_as k.reached lr (k.stands region lr) submits)))
      at (inr n) = subst (SessionsStandIn cluster sessions.workload v r)
          (sym (get_or-set_other sessions.by_region region r (waiting_here id') no_sessions n))
          (others_sessions k.reached (Submit region name) try_legal lr elsewhere lq n (k.attended r lq))

  -- the site and the sessions after the call
  submit_done : (p after : SiteView) (id : TxnId) → p ≡ site_at sites region → MakesAttempt cluster.procs p rank body origin (Ok id) after → IsSoundRegion after.region.state
      → IsMade cluster sessions sites steps (Submit region name) (record sessions { by_region = later id }) (set sites region after)
  submit_done p after id is m sound =
      let own : origin ≡ origin_for w name next_is.place = next_is.origin_is in
      let of_call : MakesAttempt cluster.procs p next_is.call.rank (body_of next_is.call.wanted) (origin_for w name next_is.place) (Ok id) after =
      subst (λ x. MakesAttempt cluster.procs p x (body_of next_is.call.wanted) (origin_for w name next_is.place) (Ok id) after) next_is.rank_is
      (subst (λ x. MakesAttempt cluster.procs p rank x (origin_for w name next_is.place) (Ok id) after) next_is.body_is
      (subst (λ x. MakesAttempt cluster.procs p rank body x (Ok id) after) own m)) in
      let m' : MakesAttempt cluster.procs (site_at sites region) next_is.call.rank (body_of next_is.call.wanted) (origin_for w name next_is.place) (Ok id) after =
      subst (λ x. MakesAttempt cluster.procs x next_is.call.rank (body_of next_is.call.wanted) (origin_for w name next_is.place) (Ok id) after) is of_call in
      let id_is : id' ≡ id = sym (m'.0 ∙ ids k.reached lr (k.stands region lr) submits) in
      subst (λ x. IsMade cluster sessions sites steps (Submit region name) (record sessions { by_region = later x }) (set sites region after)) id_is
      (sessions_made k (Submit region name) lr (submit_made k.reached lr (k.stands region lr) submits id after m' sound) refl refl (later id')
      (length-set sessions.by_region region (waiting_here id') ∙ k.listed) standing)

-- where the session may submit nothing, the event is not legal
pub submit_refused : {view now : WorldView} (region : ℕ) (name : Bytes) → view ≡ now → IsNextOf view region name None → ¬ (IsLegal now.cluster now.workload now.state (Submit region name))
submit_refused region name is none = subst (λ v. ¬ (IsLegal v.cluster v.workload v.state (Submit region name))) is (λ legal. none legal.allowed)

-- what the call has in hand: the site of a region of a lawful world, and what the session submits next there
pub record SubmitsAt (cluster : Cluster) (sessions : WorldSessions) (sites : List SiteView) (steps region : ℕ) (name : Bytes) (p : SiteView) (origin : Origin) (rank : ℕ) (body : Body) : Type 0 where
  pub lawful : IsLawful cluster sessions sites steps
  pub there : region < cluster.regions
  pub site : p ≡ site_at sites region
  pub next : IsNextTry (view_in cluster sessions sites steps) region name origin rank body

pub submits_at : {cluster : Cluster} {sessions : WorldSessions} {sites : List SiteView} {steps : ℕ} → IsLawful cluster sessions sites steps → {region : ℕ} → region < cluster.regions → (name : Bytes)
    → {p : SiteView} → p ≡ get_or sites region p → {origin : Origin} {rank : ℕ} {body : Body} → IsNextOf (view_in cluster sessions sites steps) region name (Some (origin, rank, body))
    → SubmitsAt cluster sessions sites steps region name p origin rank body
submits_at {sites = sites} k {region} lr name {p} value seen = record {
  lawful = k;
  there = lr;
  site = read_at sites region p (a_site k lr) value;
  next = seen;
}

module _ {cluster : Cluster} {sessions : WorldSessions} {sites : List SiteView} {steps region : ℕ} {name : Bytes} {p : SiteView} {origin : Origin} {rank : ℕ} {body : Body}
    (at : SubmitsAt cluster sessions sites steps region name p origin rank body) where
  abbrev k : IsLawful cluster sessions sites steps
  k = at.lawful

  abbrev lr : region < cluster.regions
  lr = at.there

  -- it may be submitted to the site

  pub submit_fits : BodyFits cluster.procs p.region.state.here.table.version p.region.state.regions body
  submit_fits = subst (λ (x : SiteView). BodyFits cluster.procs x.region.state.here.table.version x.region.state.regions body) (sym at.site) (fits_here k lr name at.next)

  pub submit_rank : rank ≤ 9
  submit_rank = rank_here k lr name at.next

  pub submit_place : steps < 4294967295 → length p.region.state.submitted < 4294967295
  submit_place few =
      let submitted : length (site_at sites region).region.state.submitted ≤ steps = submitted_few k lr in
      subst (λ (x : SiteView). length x.region.state.submitted < 4294967295) (sym at.site) (omega (arith, submitted, few))

  -- the site became q, and the sessions of the region are those at its place
  module _ (id : TxnId) (q : SiteView) (m : MakesAttempt cluster.procs p rank body origin (Ok id) q) (s : SessionsView) (s_at : s ≡ get_or sessions.by_region region s) where
    here : region < length sessions.by_region
    here = subst (λ n. region < n) (sym k.listed) lr

    sessions_are : (x : SessionsView) → x ≡ get_or sessions.by_region region x → x ≡ sessions_of sessions.by_region region
    sessions_are x = sessions_at_place sessions.by_region region x here

    -- the outcomes of the region are those that it had, so the session may go on by them
    pub may_wait : {r : RegionView} {origins : List Origin} {y : SiteView} → y ≡ get_or (set sites region q) region y → record { region = r; origins = origins } ≡ y
        → (read : SessionsView) → read ≡ get_or sessions.by_region region read → (last : Option Outcome) → last ≡ option_and_then (outcome_of r.state) (waits_of read name) → MayGo s name last
    may_wait {r} value is read read_at last told =
        let within : region < length (set sites region q) = subst (λ n. region < n) (sym (length-set sites region q)) (a_site k lr) in
        let b = behind {sites = set sites region q} within value is in
        let outcomes : outcome_of r.state ≡ outcome_of (site_at sites region).region.state =
        ap (λ (x : RegionView). outcome_of x.state) (b.region_is ∙ ap (λ (x : SiteView). x.region) (get_or-set_same sites region q no_site (a_site k lr)))
        ∙ ap (λ (x : SiteView). outcome_of x.region.state) m.1 ∙ ap (λ (x : SiteView). outcome_of x.region.state) at.site in
        let here_told : last ≡ option_and_then (outcome_of (site_at sites region).region.state) (waits_of (sessions_of sessions.by_region region) name) =
        told ∙ (λ j. option_and_then (outcomes j) (waits_of (sessions_are read read_at j) name)) in
        let allowed = subst (MaySubmit cluster (world_of sites (places_in sessions)) region) (sym at.next.found) at.next.may in
        subst (λ x. MayGo x name last) (sym (sessions_are s s_at)) (submit_go k lr name last here_told allowed)

    -- with the sessions that wait so, the event is made
    pub waits_made : IsSoundRegion q.region.state → (new : SessionsView) → new ≡ after_wait s name id
        → IsMade cluster sessions sites steps (Submit region name) (record sessions { by_region = set sessions.by_region region new }) (set sites region q)
    waits_made sound new is =
        let new_is : new ≡ after_wait (sessions_of sessions.by_region region) name id = is ∙ ap (λ x. after_wait x name id) (sessions_are s s_at) in
        subst (λ x. IsMade cluster sessions sites steps (Submit region name) (record sessions { by_region = set sessions.by_region region x }) (set sites region q)) (sym new_is)
        (submit_done k lr name at.next p q id at.site m sound)
