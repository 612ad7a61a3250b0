-- When a site is a node of a world. A region keeps its own account of what happened: its copies of logs, and the
-- transactions that it holds. One learns here that this account agrees with a world of all regions (`StandsIn`): its logs
-- are fronts of the world's logs, what it holds is what was submitted, and what it asked, placed and made is the node's.
-- Where the world is one that legal events lead to (`IsReached`), such a site may be given the world's requests and
-- deliveries. Read next: `SessionsStandIn`, the same of a region's sessions; then src/site.rt, the calls.
use Rattle.std.specs.Prelude.{◌≡◌, ℕ, List, length, Some}
use Rattle.dt_access.specs.declared.TxnId.{TxnId}
use Rattle.dt_events.specs.declared.Event.{Event}
use Rattle.dt_txn.specs.declared.Txn.{Txn}
use Rattle.dt_region.specs.Region.{held}
use Rattle.dt_region.specs.Sound.{IsSoundRegion}
use Rattle.dt_cluster.specs.declared.Cluster.{Cluster}
use Rattle.dt_workload.specs.declared.Workload.{Workload}
use Rattle.dt_session.specs.World.{World, node_at, received_logs, txn_of}
use Rattle.dt_session.specs.Run.{world_after}
use Rattle.dt_agreement.specs.LegalRun.{IsLegalRun}
use Rattle.dt_site.specs.Site.{SiteView, node_of}

-- legal events lead to the world
pub record IsReached (cluster : Cluster) (workload : Workload) (w : World) : Type 0 where
  pub events : List Event
  pub run : IsLegalRun cluster workload events
  pub after : w ≡ world_after cluster workload events

-- the site is the region of this number in a world of n regions
pub record StandsIn (regions : ℕ) (w : World) (region : ℕ) (p : SiteView) : Type 0 where
  -- it has that number, and knows how many regions there are
  pub number : p.region.state.number ≡ region
  pub many : p.region.state.regions ≡ regions
  pub sound : IsSoundRegion p.region.state
  -- it has the logs as far as it received them in the world
  pub logs : p.region.state.logs ≡ received_logs w region
  -- each of its submissions is of some session
  pub origins : length p.origins ≡ length p.region.state.submitted
  -- what it holds under an id is the world's transaction of that id
  pub known : (id : TxnId) (txn : Txn) → held p.region.state id ≡ Some txn → txn_of w id ≡ Some txn
  -- what it submitted, asked, placed and made is the node's
  pub node : node_of p ≡ node_at w region
