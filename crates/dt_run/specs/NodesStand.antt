-- What holds of all nodes between two phases. Nobody sees all of a cluster's events as one list; but there is such a list,
-- in the order in which they were made, and each node stands in the world after it. One learns here all that the type of the
-- nodes keeps (`AreNodes`): such a list, and, unless some phase failed, what the links, the marks and the turns have to do with
-- it (`AreInStep`). Read next: `Phase`, for what a phase makes.
use Rattle.std.specs.Prelude.{◌≡◌, ◌≢◌, ◌<◌, ◌≤◌, ℕ, zero, suc, List, [], length, false}
use Rattle.dt_lists.specs.Lists.{IsFront}
use Rattle.dt_events.specs.declared.Stamped.{Stamped}
use Rattle.dt_events.specs.Stamps.{events_of}
use Rattle.dt_region.specs.Region.{latest_stamp}
use Rattle.dt_packet.specs.declared.packet.Packet.{Packet}
use Rattle.dt_packet.specs.declared.loss.Verdict.{Verdict}
use Rattle.dt_packet.specs.Loss.{IsVerdict}
use Rattle.dt_cluster.specs.Valid.{IsValidCluster}
use Rattle.dt_cluster.specs.declared.Cluster.{Cluster}
use Rattle.dt_workload.specs.Valid.{IsValidWorkload}
use Rattle.dt_workload.specs.declared.Workload.{Workload}
use Rattle.dt_session.specs.Eager.{first_calls, first_events, sessions_at}
use Rattle.dt_session.specs.World.{opening_table}
use Rattle.dt_merge.specs.Merge.{IsChronicle}
use Rattle.dt_node.specs.NodeView.{number_of, packet_for}
use Rattle.dt_node.specs.TurnPackets.{copies_of}
use Rattle.dt_node.specs.NodeInWorld.{NodeFits}
use Rattle.dt_node.specs.Turn.{HasPlacedOwn}
use Rattle.dt_run.specs.Marks.{AreMarksOf, ArePlanned, kept_by_region, plan_of}
use Rattle.dt_run.specs.NodesView.{NodesView, kept_by, node_in, waiting_between}

-- the packet of this number waits on a link as often as the plan says, and nothing else; it is what its source would send now
pub record IsOnLink (cluster : Cluster) (number : ℕ) (packet : Packet) (waiting : List Packet) : Type 0 where
  pub verdict : Verdict
  pub is : IsVerdict (plan_of cluster) number verdict
  pub copies : waiting ≡ copies_of verdict packet

-- what waits on the link from one region to another after n phases
abbrev pub LinkTells : NodesView → ℕ → ℕ → ℕ → Type 0
LinkTells v zero source target = waiting_between v source target ≡ []
LinkTells v (suc made) source target = IsOnLink v.cluster (suc made) (packet_for (node_in v source) target) (waiting_between v source target)

-- a region that has made turns began with the first calls of its sessions
abbrev pub BeganEagerly : Cluster → Workload → ℕ → List Stamped → Type 0
BeganEagerly cluster workload region kept =
    IsFront (first_events cluster region (opening_table cluster) (first_calls (sessions_at region workload.sessions)) 0) (events_of kept)

-- the node of a region after n phases
pub record IsInStep (v : NodesView) (made region : ℕ) : Type 0 where
  -- it has made a turn in each
  pub turns : (node_in v region).turns ≡ made
  pub marks : AreMarksOf v made region
  -- all that it asked of its own region is placed
  pub placed : HasPlacedOwn (node_in v region)
  pub begun : made ≢ 0 → BeganEagerly v.cluster v.workload region (kept_by_region v region)

-- no phase has failed: all nodes have made the same number of turns, the links bring what their sources would send now, and all that
-- regions took from each other came as planned
pub record AreInStep (v : NodesView) : Type 0 where
  pub made : ℕ
  pub each : (region : ℕ) → region < v.cluster.regions → IsInStep v made region
  pub links : (source target : ℕ) → source < v.cluster.regions → target < v.cluster.regions → source ≢ target → LinkTells v made source target
  pub planned : ArePlanned v

-- after these events, in the order in which they were made, the node of a region stands in the world
pub record StandsAmong (v : NodesView) (all : List Stamped) (region : ℕ) : Type 0 where
  pub number : number_of (node_in v region) ≡ region
  pub fits : NodeFits v.cluster v.workload (events_of all) (node_in v region)
  -- no stamp is above the number of events
  pub stamps : latest_stamp (node_in v region).site.region ≤ length all
  pub plan : (node_in v region).plan ≡ plan_of v.cluster

-- the nodes of a valid cluster with a valid workload, after events that some list has in the order in which they were made
pub record AreNodes (v : NodesView) : Type 0 where
  pub cluster : IsValidCluster v.cluster
  pub workload : IsValidWorkload v.cluster v.workload
  pub many : length v.nodes ≡ v.cluster.regions
  pub all : List Stamped
  pub chronicle : IsChronicle v.cluster v.workload all (kept_by v.nodes)
  pub stand : (region : ℕ) → region < v.cluster.regions → StandsAmong v all region
  pub in_step : v.broken ≡ false → AreInStep v
