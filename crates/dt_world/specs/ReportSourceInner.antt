-- Only proofs need this file, and the private calls of a report: what a report is made from, as the code holds it. Read
-- next: `SitesAfter`, for what is to hold of it, and `WorldReport`, for what the report says.
use Rattle.std.specs.Prelude.{List}
use Rattle.dt_events.specs.declared.Event.{Event}
use Rattle.dt_cluster.specs.declared.Cluster.{Cluster}
use Rattle.dt_workload.specs.declared.Workload.{Workload}
use Rattle.dt_session.specs.World.{World}
use Rattle.dt_session.specs.Run.{world_after}
use Rattle.dt_site.specs.Site.{SiteView}
use Rattle.dt_world.specs.SitesAfter.{AreSitesAfter}

-- what a report is made from, as the code holds it
pub record ReportSourceView : Type 0 where
  pub cluster : Cluster
  pub workload : Workload
  -- the site of each region, by its number
  pub sites : List SiteView
  pub events : List Event

-- the world that the events lead to
abbrev pub world_told : ReportSourceView → World
world_told told = world_after told.cluster told.workload told.events

-- the sites are those after the events
abbrev pub LedTo : ReportSourceView → Type 0
LedTo told = AreSitesAfter told.cluster told.workload told.events told.sites
