-- Rule 7 in a world: a session is answered, its region's site keeps the event, and its region keeps that it goes on.
-- At the end stands what the call needs on its way, of what it has in hand.
use Rattle.std.proofs.Common.{◌≡◌, ◌<◌, ◌+◌, ℕ, List, length, get_or, set, Ok, Some, None, refl, sym, ap, subst, ◌∙◌, inl, inr}
use Rattle.std.specs.Prelude.{Option, option_and_then}
use Rattle.std.proofs.lemmas.List.{get_or-set_same, get_or-set_other, length-set}
use Rattle.dt_lists.specs.Lists.{Either}
use Rattle.dt_lists.proofs.Callers.{either_nat}
use Rattle.dt_access.specs.Clash.{Bytes}
use Rattle.dt_events.specs.declared.Event.TheVariants.{Answer}
use Rattle.dt_txn.specs.declared.Outcome.{Outcome}
use Rattle.dt_region.specs.Region.{RegionView, outcome_of}
use Rattle.dt_region.specs.Rules.{MakesAnswer}
use Rattle.dt_cluster.specs.declared.Cluster.{Cluster}
use Rattle.dt_workload.specs.declared.Session.{Session}
use Rattle.dt_session.specs.Sessions.{MayBeAnswered, SessionsView, after_answer, answered_seat, waits_of}
use Rattle.dt_session.specs.World.{World, Place, session_at}
use Rattle.dt_session.specs.Step.{IsLegal, MayAnswer, next}
use Rattle.dt_site.specs.declared.Origin.{Origin}
use Rattle.dt_site.specs.SessionsStandIn.{SessionsStandIn, no_sessions}
use Rattle.dt_site.specs.Site.{SiteView, no_site}
use Rattle.dt_site.proofs.Callers.{Answers, StandsElsewhere, answer_elsewhere, answer_legal, answer_made, others_sessions, sessions_changed}
use Rattle.dt_world.specs.WorldInner.{IsLawful, MayBeTold, sessions_of, site_at, view_in, world_of}
use Rattle.dt_world.specs.WorldSessions.{WorldSessions, places_in}
use Rattle.dt_world.specs.WorldView.{WorldView}
use Rattle.dt_world.proofs.WorldFacts.{end_told, sessions_at_place}
use Rattle.dt_world.proofs.WorldLaws.{HoldsSite, IsBehind, IsMade, a_site, behind, sessions_made, with_region}

module _ {cluster : Cluster} {sessions : WorldSessions} {sites : List SiteView} {steps : ℕ} (k : IsLawful cluster sessions sites steps) {region : ℕ} (lr : region < cluster.regions) (name : Bytes) where
  abbrev w : World
  w = world_of sites (places_in sessions)

  -- the sessions of each region, after this one was answered
  abbrev pub later : List SessionsView
  later = set sessions.by_region region (after_answer (sessions_of sessions.by_region region) name)

  -- the world after the answer
  abbrev v : World
  v = next cluster sessions.workload w (Answer region name)

  module _ {session : Session} {place : Place} (answers : Answers cluster sessions.workload w region name session place) where
    legal : IsLegal cluster sessions.workload w (Answer region name)
    legal = answer_legal k.reached lr (k.stands region lr) answers

    elsewhere : StandsElsewhere sessions.workload w v region name session place (record { answered = place.answered + 1; waits = None })
    elsewhere = answer_elsewhere k.reached lr (k.stands region lr) answers

    standing : (r : ℕ) → r < cluster.regions → SessionsStandIn cluster sessions.workload v r (sessions_of later r)
    standing r lq = at (either_nat r region)
      where
        at : Either (r ≡ region) → SessionsStandIn cluster sessions.workload v r (sessions_of later r)
        at (inl e) = subst (λ x. SessionsStandIn cluster sessions.workload v x (sessions_of later x)) (sym e)
            (subst (SessionsStandIn cluster sessions.workload v region)
            (sym (get_or-set_same sessions.by_region region (after_answer (sessions_of sessions.by_region region) name) no_sessions (subst (λ n. region < n) (sym k.listed) lr)))
            (sessions_changed k.reached (Answer region name) legal lr elsewhere answered_seat (k.attended region lr) refl))
        at (inr n) = subst (SessionsStandIn cluster sessions.workload v r)
            (sym (get_or-set_other sessions.by_region region r (after_answer (sessions_of sessions.by_region region) name) no_sessions n))
            (others_sessions k.reached (Answer region name) legal lr elsewhere lq n (k.attended r lq))

    done_here : {r : RegionView} {origins : List Origin} → IsBehind sites region r origins → (after : RegionView) → MakesAnswer r name (Ok tt) after
        → IsMade cluster sessions sites steps (Answer region name) (record sessions { by_region = later }) (with_region sites region after origins)
    done_here b after m =
        let here = subst (λ x. MakesAnswer x name (Ok tt) after) b.region_is m in
        subst (λ q. IsMade cluster sessions sites steps (Answer region name) (record sessions { by_region = later }) (set sites region q)) (sym (b.site_is after))
        (sessions_made k (Answer region name) lr (answer_made k.reached lr (k.stands region lr) answers after here) refl refl later
        (length-set sessions.by_region region (after_answer (sessions_of sessions.by_region region) name) ∙ k.listed) standing)

  -- the site and the sessions after the call
  answer_done : MayBeTold (view_in cluster sessions sites steps) region name → {r : RegionView} {origins : List Origin} → IsBehind sites region r origins → (after : RegionView) → MakesAnswer r name (Ok tt) after
      → IsMade cluster sessions sites steps (Answer region name) (record sessions { by_region = later }) (with_region sites region after origins)
  answer_done may {r} {origins} b after m = go _ refl may
    where
      go : (o : Option (Session × Place)) → session_at sessions.workload.sessions (places_in sessions) region name ≡ o → MayAnswer cluster w region o
          → IsMade cluster sessions sites steps (Answer region name) (record sessions { by_region = later }) (with_region sites region after origins)
      go None e x = absurd x
      go (Some (session, place)) e x = let answers : Answers cluster sessions.workload w region name session place = record { found = e; may = x } in done_here answers b after m

-- where the session may not be answered, the event is not legal
pub answer_refused : {view now : WorldView} (region : ℕ) (name : Bytes) → view ≡ now → ¬ (MayBeTold view region name) → ¬ (IsLegal now.cluster now.workload now.state (Answer region name))
answer_refused region name is not = subst (λ v. ¬ (IsLegal v.cluster v.workload v.state (Answer region name))) is (λ legal. not legal.allowed)

-- the region's site kept the event, and the sessions of the region are those at its place
module _ {cluster : Cluster} {sessions : WorldSessions} {sites : List SiteView} {steps region : ℕ} {r : RegionView} {origins : List Origin} (at : HoldsSite cluster sessions sites steps region r origins)
    (name : Bytes) (may : MayBeTold (view_in cluster sessions sites steps) region name) (after : RegionView) (m : MakesAnswer r name (Ok tt) after)
    (s : SessionsView) (s_at : s ≡ get_or sessions.by_region region s) where
  abbrev k : IsLawful cluster sessions sites steps
  k = at.lawful

  abbrev lr : region < cluster.regions
  lr = at.there

  abbrev b : IsBehind sites region r origins
  b = at.site

  abbrev q : SiteView
  q = record { region = after; origins = origins }

  sessions_are : (x : SessionsView) → x ≡ get_or sessions.by_region region x → x ≡ sessions_of sessions.by_region region
  sessions_are x = sessions_at_place sessions.by_region region x (subst (λ n. region < n) (sym k.listed) lr)

  -- the outcomes of the region are those that it had, so the session may be answered by them
  pub may_end : {now : RegionView} {others : List Origin} {y : SiteView} → y ≡ get_or (set sites region q) region y → record { region = now; origins = others } ≡ y
      → (read : SessionsView) → read ≡ get_or sessions.by_region region read → (last : Option Outcome) → last ≡ option_and_then (outcome_of now.state) (waits_of read name) → MayBeAnswered s name last
  may_end {now} value is read read_at last told =
      let within : region < length (set sites region q) = subst (λ n. region < n) (sym (length-set sites region q)) (a_site k lr) in
      let there = behind {sites = set sites region q} within value is in
      let state_is : now.state ≡ (site_at sites region).region.state =
      ap (λ (x : RegionView). x.state) (there.region_is ∙ ap (λ (x : SiteView). x.region) (get_or-set_same sites region q no_site (a_site k lr)) ∙ m) ∙ ap (λ (x : RegionView). x.state) b.region_is in
      let here_told : last ≡ option_and_then (outcome_of (site_at sites region).region.state) (waits_of (sessions_of sessions.by_region region) name) =
      told ∙ (λ j. option_and_then (outcome_of (state_is j)) (waits_of (sessions_are read read_at j) name)) in
      subst (λ x. MayBeAnswered x name last) (sym (sessions_are s s_at)) (end_told k lr name last here_told may)

  -- with the sessions that go on so, the event is made
  pub answers_made : (new : SessionsView) → new ≡ after_answer s name
      → IsMade cluster sessions sites steps (Answer region name) (record sessions { by_region = set sessions.by_region region new }) (set sites region q)
  answers_made new is =
      let new_is : new ≡ after_answer (sessions_of sessions.by_region region) name = is ∙ ap (λ x. after_answer x name) (sessions_are s s_at) in
      subst (λ x. IsMade cluster sessions sites steps (Answer region name) (record sessions { by_region = set sessions.by_region region x }) (set sites region q)) (sym new_is)
      (answer_done k lr name may b after m)
