-- What a report needs of the sites. The outcomes, the origins of attempts and the rows stand in the regions, and need not be made
-- again. So a report takes events and the sites of all regions, each as it is after these events: it does not matter whether
-- one world holds all sites, or each is that of a node which ran by itself. One learns here when sites are so
-- (`AreSitesAfter`). Read next: `WorldReport`, for what the report says.
use Rattle.std.specs.Prelude.{◌≡◌, ◌<◌, ℕ, List, get_or, length}
use Rattle.dt_events.specs.declared.Event.{Event}
use Rattle.dt_cluster.specs.Valid.{IsValidCluster}
use Rattle.dt_cluster.specs.declared.Cluster.{Cluster}
use Rattle.dt_workload.specs.Valid.{IsValidWorkload}
use Rattle.dt_workload.specs.declared.Workload.{Workload}
use Rattle.dt_session.specs.Run.{AreLegal, world_after}
use Rattle.dt_site.specs.Site.{SiteView, no_site}
use Rattle.dt_site.specs.StandsIn.{StandsIn}

-- these are the sites of all regions of a valid cluster with a valid workload, after these events, which are legal
pub record AreSitesAfter (cluster : Cluster) (workload : Workload) (events : List Event) (sites : List SiteView) : Type 0 where
  pub valid : IsValidCluster cluster
  pub fits : IsValidWorkload cluster workload
  pub legal : AreLegal cluster workload events
  pub many : length sites ≡ cluster.regions
  pub stands : (region : ℕ) → region < cluster.regions → StandsIn cluster.regions (world_after cluster workload events) region (get_or sites region no_site)
  -- what a region submitted is counted by 32 bits
  pub few : (region : ℕ) → region < cluster.regions → length (get_or sites region no_site).region.state.submitted < 4294967296
