-- Only proofs need this file, and the private calls of a world. It says what the type of a world keeps of its own fields:
-- of the sessions that its regions keep, of the sites of all regions, and of the number of steps (`IsLawful`). And it has
-- words for what one session may do next (`IsNextOf`, `MayBeTold`). Read `WorldView` for what callers see.
use Rattle.std.specs.Prelude.{◌≡◌, ◌<◌, ◌≤◌, ◌+◌, ℕ, List, length, map, get_or, slice_get, Option, Some, None}
use Rattle.std.specs.List.{range_with_len}
use Rattle.dt_access.specs.Clash.{Bytes}
use Rattle.dt_events.specs.declared.Event.{Event}
use Rattle.dt_events.specs.Stamps.{events_of}
use Rattle.dt_txn.specs.declared.Body.{Body}
use Rattle.dt_region.specs.Region.{latest_stamp}
use Rattle.dt_cluster.specs.declared.Cluster.{Cluster}
use Rattle.dt_workload.specs.declared.Session.{Session}
use Rattle.dt_workload.specs.declared.Ranked.{Ranked}
use Rattle.dt_session.specs.Sessions.{SessionsView}
use Rattle.dt_session.specs.World.{World, Place, opening_table, session_at}
use Rattle.dt_session.specs.Step.{MayAnswer, MaySubmit, MayTry, awaited_at, body_of, next_attempt}
use Rattle.dt_site.specs.declared.Origin.{Origin}
use Rattle.dt_site.specs.SessionsStandIn.{SessionsStandIn, no_sessions}
use Rattle.dt_site.specs.Site.{SiteView, no_site, node_of, opening_site}
use Rattle.dt_site.specs.StandsIn.{IsReached, StandsIn}
use Rattle.dt_world.specs.WorldView.{WorldView}
use Rattle.dt_world.specs.WorldSessions.{WorldSessions, places_in}

-- the site of a region, among those of all regions
abbrev pub site_at : List SiteView → ℕ → SiteView
site_at sites region = get_or sites region no_site

-- the sessions of a region, among those of all regions
abbrev pub sessions_of : List SessionsView → ℕ → SessionsView
sessions_of all region = get_or all region no_sessions

-- the world of these sites and places
abbrev pub world_of : List SiteView → List Place → World
world_of sites places = record { nodes = map node_of sites; places = places }

-- the events that a site's region keeps, without their stamps
abbrev pub kept_in : SiteView → List Event
kept_in p = events_of p.region.events

-- a world of these fields, as callers see it
abbrev pub view_in : Cluster → WorldSessions → List SiteView → ℕ → WorldView
view_in cluster sessions sites steps = record {
  cluster = cluster;
  workload = sessions.workload;
  state = world_of sites (places_in sessions);
  kept = map kept_in sites;
  steps = steps;
}

-- these sessions and sites are a world that n legal events lead to, and each region's site and sessions stand in it; a
-- region knows of no stamp above the number of these events
pub record IsLawful (cluster : Cluster) (sessions : WorldSessions) (sites : List SiteView) (steps : ℕ) : Type 0 where
  pub reached : IsReached cluster sessions.workload (world_of sites (places_in sessions))
  pub many : length reached.events ≡ steps
  pub stands : (region : ℕ) → region < cluster.regions → StandsIn cluster.regions (world_of sites (places_in sessions)) region (site_at sites region)
  pub stamps : (region : ℕ) → region < cluster.regions → latest_stamp (site_at sites region).region ≤ steps
  pub listed : length sessions.by_region ≡ cluster.regions
  pub attended : (region : ℕ) → region < cluster.regions →
      SessionsStandIn cluster sessions.workload (world_of sites (places_in sessions)) region (sessions_of sessions.by_region region)

-- the sites of a cluster before anything happens
abbrev pub opening_sites : Cluster → List SiteView
opening_sites cluster = map (λ number. opening_site number cluster.regions (opening_table cluster)) (range_with_len 0 cluster.regions)

-- what a session of this name at a region submits next: its next call or the same again, with its rank, and whose that is
pub record IsNextTry (view : WorldView) (region : ℕ) (name : Bytes) (origin : Origin) (rank : ℕ) (body : Body) : Type 0 where
  pub session : Session
  pub place : Place
  pub call : Ranked
  pub found : session_at view.workload.sessions view.state.places region name ≡ Some (session, place)
  pub may : MayTry view.cluster.tries (length session.calls) place.answered (awaited_at view.state region place.waits)
  pub wants : slice_get session.calls place.answered ≡ Some call
  pub origin_is : origin ≡ record { session = name; call = place.answered + 1; attempt = next_attempt view.state place.waits }
  pub rank_is : rank ≡ call.rank
  pub body_is : body ≡ body_of call.wanted

-- what the session submits next; none exactly where it may submit nothing
abbrev pub IsNextOf : WorldView → ℕ → Bytes → Option (Origin × ℕ × Body) → Type 0
IsNextOf view region name None = ¬ (MaySubmit view.cluster view.state region (session_at view.workload.sessions view.state.places region name))
IsNextOf view region name (Some (origin, rank, body)) = IsNextTry view region name origin rank body

-- the session of this name at a region may be answered
abbrev pub MayBeTold : WorldView → ℕ → Bytes → Type 0
MayBeTold view region name = MayAnswer view.cluster view.state region (session_at view.workload.sessions view.state.places region name)
