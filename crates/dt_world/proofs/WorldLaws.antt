-- What the type of a world keeps: what follows of it, and how it stays so when one site steps.
use Rattle.std.proofs.Common.{◌≡◌, ◌<◌, ◌≤◌, ◌+◌, ℕ, Bool, true, false, cond, List, [], ◌∷◌, ◌++◌, length, map, get_or}
use Rattle.std.proofs.Common.{set, Result, Ok, Err, IsErrAnd, sym, ap, ap₂, subst, ◌∙◌, inl, inr, arith}
use Rattle.std.proofs.lemmas.List.{length-map, length_push, map-set, get_or_read, get_or-set_same, get_or-set_other}
use Rattle.std.proofs.Math.ListN.{get_or-map}
use Rattle.dt_lists.specs.Lists.{Either, Has}
use Rattle.dt_lists.proofs.Callers.{all_get, either_nat}
use Rattle.dt_events.specs.Events.{region_of}
use Rattle.dt_events.specs.declared.Event.{Event}
use Rattle.dt_region.specs.Region.{RegionView, latest_stamp}
use Rattle.dt_cluster.specs.declared.Cluster.{Cluster}
use Rattle.dt_workload.specs.Valid.{IsValidSession}
use Rattle.dt_workload.specs.declared.Session.{Session}
use Rattle.dt_workload.specs.declared.Workload.{Workload}
use Rattle.dt_session.specs.Sessions.{SessionsView}
use Rattle.dt_agreement.proofs.Callers.{places_parallel}
use Rattle.dt_session.specs.World.{World, Place, node_at}
use Rattle.dt_session.specs.Step.{IsLegal, next}
use Rattle.dt_site.specs.declared.Origin.{Origin}
use Rattle.dt_site.specs.Site.{SiteView, in_region, no_site, node_of}
use Rattle.dt_site.specs.SessionsStandIn.{SessionsStandIn, places_of}
use Rattle.dt_site.specs.StandsIn.{IsReached, StandsIn}
use Rattle.dt_site.proofs.Callers.{HasShortLists, Steps, after_more, inv, legal_short, many_here, others_stand, places_are, run_more, sessions_stay}
use Rattle.dt_world.specs.WorldSessions.{WorldSessions, places_in}
use Rattle.dt_world.specs.WorldInner.{IsLawful, kept_in, sessions_of, site_at, view_in, world_of}
use Rattle.dt_world.specs.WorldView.{Makes, WorldView, kept_next, made, takes_effect}
use Rattle.dt_world.specs.declared.world.StepError.{StepError}
use Rattle.dt_world.specs.declared.world.StepError.TheVariants.{NoMemory}

-- the event was legal, and these sessions and sites are what it makes
pub record IsMade (cluster : Cluster) (sessions : WorldSessions) (sites : List SiteView) (steps : ℕ) (event : Event) (later : WorldSessions) (after : List SiteView) : Type 0 where
  pub legal : IsLegal cluster sessions.workload (world_of sites (places_in sessions)) event
  pub lawful : IsLawful cluster later after (steps + 1)
  pub is : view_in cluster later after (steps + 1) ≡ made (view_in cluster sessions sites steps) event

-- the same of a world that is known to be lawful, where a session of one region went on
abbrev pub SessionStepOf : {cluster : Cluster} {sessions : WorldSessions} {sites : List SiteView} {steps : ℕ} → IsLawful cluster sessions sites steps → Event → ℕ → SessionsView → List SiteView → Type 0
SessionStepOf {cluster} {sessions} {sites} {steps} k event region new after = IsMade cluster sessions sites steps event (record sessions { by_region = set sessions.by_region region new }) after

-- so it is for the world as it was seen before
pub made_before : {cluster : Cluster} {sessions : WorldSessions} {sites : List SiteView} {steps : ℕ} {event : Event} {later : WorldSessions} {after : List SiteView} {now : WorldView}
    → view_in cluster sessions sites steps ≡ now → IsMade cluster sessions sites steps event later after
    → IsLegal now.cluster now.workload now.state event × (view_in cluster later after (steps + 1) ≡ made now event)
made_before {cluster} {sessions} {sites} {steps} {event} {later} {after} {now} view m =
    subst (λ v. IsLegal v.cluster v.workload v.state event × (view_in cluster later after (steps + 1) ≡ made v event)) view (m.legal, m.is)

-- a site that was taken out of the list is the one at that place
pub read_at : (sites : List SiteView) (region : ℕ) (p : SiteView) → region < length sites → p ≡ get_or sites region p → p ≡ site_at sites region
read_at sites region p lt e = get_or_read sites region p lt e no_site

-- the events that the regions keep after this one, where it takes effect and where not
abbrev kept_where : List SiteView → Event → Bool → List (List Event)
kept_where sites event b = cond b (set (map kept_in sites) (region_of event) (get_or (map kept_in sites) (region_of event) [] ++ event ∷ [])) (map kept_in sites)

-- what is seen one step later
abbrev seen_next : Cluster → Workload → ℕ → World → List (List Event) → WorldView
seen_next cluster workload steps w l = record { cluster = cluster; workload = workload; state = w; kept = l; steps = steps + 1 }

module _ {cluster : Cluster} {sessions : WorldSessions} {sites : List SiteView} {steps : ℕ} (k : IsLawful cluster sessions sites steps) where
  abbrev w : World
  w = world_of sites (places_in sessions)

  -- the world after an event
  abbrev w_after : Event → World
  w_after event = next cluster sessions.workload w event

  pub many_sites : length sites ≡ cluster.regions
  many_sites = sym (length-map sites node_of) ∙ (inv k.reached).nodes

  pub a_site : {region : ℕ} → region < cluster.regions → region < length sites
  a_site {region} lr = subst (λ n. region < n) (sym many_sites) lr

  pub node_is : (q : ℕ) → node_at w q ≡ node_of (site_at sites q)
  node_is q = get_or-map node_of sites q no_site

  -- the lists of the world are short
  pub short : HasShortLists w steps
  short = subst (λ w. HasShortLists w steps) (sym k.reached.after)
      (subst (HasShortLists _) k.many (legal_short cluster k.reached.run.sound sessions.workload k.reached.run.fits k.reached.events k.reached.run.legal))

  pub submitted_few : {region : ℕ} → region < cluster.regions → length (site_at sites region).region.state.submitted ≤ steps
  submitted_few {region} lr = subst (λ n. n ≤ steps) (many_here k.reached (k.stands region lr)) (short.submitted region)

  kept_stays : (event : Event) (region : ℕ) (q : SiteView) → region_of event ≡ region → kept_in q ≡ kept_in (site_at sites region) ++ event ∷ [] → takes_effect w event ≡ true
      → map kept_in (set sites region q) ≡ kept_next w (map kept_in sites) event
  kept_stays event region q of kept effect =
      map-set kept_in sites region q
      ∙ ap (set (map kept_in sites) region) (kept ∙ ap (λ l. l ++ event ∷ []) (sym (get_or-map kept_in sites region no_site)))
      ∙ ap (λ r. set (map kept_in sites) r (get_or (map kept_in sites) r [] ++ event ∷ [])) (sym of)
      ∙ sym (ap (kept_where sites event) effect)

  -- the session of a name, wherever it is, is of one of the regions
  at_region : (t : Session) → Has sessions.workload.sessions t → t.region < cluster.regions
  at_region t h = (all_get (IsValidSession cluster) sessions.workload.sessions k.reached.run.fits.sessions t h).region

  -- one region steps, and these are the sessions that the regions keep then
  pub sessions_made : (event : Event) {region : ℕ} → region < cluster.regions → {q : SiteView} {places : List Place}
      → Steps cluster sessions.workload w event region (site_at sites region) q places
      → region_of event ≡ region → takes_effect w event ≡ true
      → (later : List SessionsView) → length later ≡ cluster.regions
      → ((r : ℕ) → r < cluster.regions → SessionsStandIn cluster sessions.workload (w_after event) r (sessions_of later r))
      → IsMade cluster sessions sites steps event (record sessions { by_region = later }) (set sites region q)
  sessions_made event {region} lr {q} {places} s of effect later many standing = record {
    legal = s.legal;
    lawful = record {
      reached = record {
        events = k.reached.events ++ event ∷ [];
        run = run_more k.reached event s.legal;
        after = is ∙ after_more k.reached event;
      };
      many = length_push k.reached.events event ∙ ap (λ n. n + 1) k.many;
      stands = λ r lq. subst (λ w. StandsIn cluster.regions w r (site_at (set sites region q) r)) (sym is) (at r lq (either_nat r region));
      stamps = λ r lq. stamped r lq (either_nat r region);
      listed = many;
      attended = λ r lq. subst (λ w. SessionsStandIn cluster sessions.workload w r (sessions_of later r)) (sym is) (standing r lq);
    };
    is = ap₂ (seen_next cluster sessions.workload steps) is (kept_stays event region q of s.kept effect);
  }
    where
      then_reached : IsReached cluster sessions.workload (w_after event)
      then_reached = record { events = k.reached.events ++ event ∷ []; run = run_more k.reached event s.legal; after = after_more k.reached event }

      stamped : (r : ℕ) → r < cluster.regions → Either (r ≡ region) → latest_stamp (site_at (set sites region q) r).region ≤ steps + 1
      stamped r lq (inl e) = subst (λ x. latest_stamp (site_at (set sites region q) x).region ≤ steps + 1) (sym e)
          (subst (λ x. latest_stamp x.region ≤ steps + 1) (sym (get_or-set_same sites region q no_site (a_site lr))) (let a = k.stamps region lr in let b = s.stamp in omega (arith, a, b)))
      stamped r lq (inr n) = subst (λ x. latest_stamp x.region ≤ steps + 1) (sym (get_or-set_other sites region r q no_site n)) (let a = k.stamps r lq in omega (arith, a))

      places_are_v : places_of sessions.workload later ≡ (w_after event).places
      places_are_v = places_are k.reached.run.fits.names_once at_region (sym (places_parallel (inv then_reached))) later standing

      is : world_of (set sites region q) (places_of sessions.workload later) ≡ w_after event
      is = ap₂ (λ l p. record { nodes = l; places = p }) (map-set node_of sites region q) (places_are_v ∙ ap (λ x. x.places) s.is) ∙ sym s.is

      at : (r : ℕ) → r < cluster.regions → Either (r ≡ region) → StandsIn cluster.regions (w_after event) r (site_at (set sites region q) r)
      at r lq (inl e) = subst (λ x. StandsIn cluster.regions (w_after event) x (site_at (set sites region q) x)) (sym e)
          (subst (λ x. StandsIn cluster.regions (w_after event) region x) (sym (get_or-set_same sites region q no_site (a_site lr))) s.stands)
      at r lq (inr n) = subst (λ x. StandsIn cluster.regions (w_after event) r x) (sym (get_or-set_other sites region r q no_site n))
          (others_stand k.reached s r n lq (site_at sites r) (k.stands r lq))

  -- one site steps by itself, and all sessions stand as before
  pub step_made : (event : Event) {region : ℕ} → region < cluster.regions → {q : SiteView} → Steps cluster sessions.workload w event region (site_at sites region) q (places_in sessions)
      → region_of event ≡ region → takes_effect w event ≡ true → IsMade cluster sessions sites steps event sessions (set sites region q)
  step_made event lr s of effect =
      sessions_made event lr s of effect sessions.by_region k.listed (λ r lq. sessions_stay k.reached event s.legal (ap (λ v. v.places) s.is) lq (k.attended r lq))

  -- a legal event that takes no effect
  pub still_made : (event : Event) → IsLegal cluster sessions.workload w event → w_after event ≡ w
      → takes_effect w event ≡ false → IsMade cluster sessions sites steps event sessions sites
  still_made event l same effect = record {
    legal = l;
    lawful = record {
      reached = record {
        events = k.reached.events ++ event ∷ [];
        run = run_more k.reached event l;
        after = sym same ∙ after_more k.reached event;
      };
      many = length_push k.reached.events event ∙ ap (λ n. n + 1) k.many;
      stands = k.stands;
      stamps = λ r lq. (let a = k.stamps r lq in omega (arith, a));
      listed = k.listed;
      attended = k.attended;
    };
    is = ap₂ (seen_next cluster sessions.workload steps) (sym same)
        (sym (ap (kept_where sites event) effect));
  }

-- the sites of all regions, where a call left this region in one of them
abbrev pub with_region : List SiteView → ℕ → RegionView → List Origin → List SiteView
with_region sites region r origins = set sites region (record { region = r; origins = origins })

-- a site that a call reached through the list, by its fields

pub record IsBehind (sites : List SiteView) (region : ℕ) (r : RegionView) (origins : List Origin) : Type 0 where
  pub region_is : r ≡ (site_at sites region).region
  pub site_is : (later : RegionView) → record { region = later; origins = origins } ≡ in_region (site_at sites region) later

pub behind : {sites : List SiteView} {region : ℕ} {p : SiteView} {r : RegionView} {origins : List Origin} → region < length sites → p ≡ get_or sites region p
    → record { region = r; origins = origins } ≡ p → IsBehind sites region r origins
behind {sites} {region} {p} {r} {origins} lt value is =
    let here : record { region = r; origins = origins } ≡ site_at sites region = is ∙ read_at sites region p lt value in
    record {
      region_is = ap (λ x. x.region) here;
      site_is = λ later. ap (λ x. record { region = later; origins = x.origins }) here;
    }

-- a region of a lawful world, and its site, which a call reached so
pub record HoldsSite (cluster : Cluster) (sessions : WorldSessions) (sites : List SiteView) (steps region : ℕ) (r : RegionView) (origins : List Origin) : Type 0 where
  pub lawful : IsLawful cluster sessions sites steps
  pub there : region < cluster.regions
  pub site : IsBehind sites region r origins

-- the same of the world that is known to be lawful
abbrev pub SiteOf : {cluster : Cluster} {sessions : WorldSessions} {sites : List SiteView} {steps : ℕ} → IsLawful cluster sessions sites steps → ℕ → RegionView → List Origin → Type 0
SiteOf {cluster} {sessions} {sites} {steps} k region r origins = HoldsSite cluster sessions sites steps region r origins

pub holds_site : {cluster : Cluster} {sessions : WorldSessions} {sites : List SiteView} {steps : ℕ} → IsLawful cluster sessions sites steps → {region : ℕ} → region < cluster.regions
    → {p : SiteView} {r : RegionView} {origins : List Origin} → p ≡ get_or sites region p → record { region = r; origins = origins } ≡ p → HoldsSite cluster sessions sites steps region r origins
holds_site k lr value is = record { lawful = k; there = lr; site = behind (a_site k lr) value is }

-- after memory ran out the world is as it was
pub out_of_memory : {now after : WorldView} (event : Event) (r : Result (Unit {0}) StepError) → IsErrAnd r (λ e. e ≡ NoMemory) → after ≡ now → Makes now event r after
out_of_memory event (Ok u) h same = absurd h
out_of_memory {now} {after} event (Err e) h same = subst (λ x. Makes now event (Err x) after) (sym h) same
