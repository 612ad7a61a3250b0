-- When a node stands in a world. The node knows its own region; the world is that of all regions. One learns here that the two
-- agree (`NodeFits`): the world is one to which legal events lead, each of which changed something; the node's site and
-- sessions are those of its region there; and what it knows of the other regions is not above what is so. A turn may be made
-- where there is such a world in which all packets that wait are true (`NodeStands`). Nobody holds this world. Read
-- next: `Turn`, for what a turn makes of it.
use Rattle.std.specs.Prelude.{◌≡◌, ◌≢◌, ◌<◌, ◌≤◌, ◌^◌, ℕ, List, length, get_or}
use Rattle.dt_lists.specs.Lists.{AllIn}
use Rattle.dt_events.specs.declared.Event.{Event}
use Rattle.dt_events.specs.declared.Stamped.{Stamped}
use Rattle.dt_proc.specs.Tree.{ProcTree}
use Rattle.dt_region.specs.Region.{latest_stamp}
use Rattle.dt_packet.specs.declared.packet.Packet.{Packet}
use Rattle.dt_cluster.specs.declared.Cluster.{Cluster}
use Rattle.dt_workload.specs.declared.Workload.{Workload}
use Rattle.dt_session.specs.World.{World, opening_world, received_of, taken_of}
use Rattle.dt_session.specs.Run.{world_after}
use Rattle.dt_session.specs.Eager.{AllChange}
use Rattle.dt_agreement.specs.LegalRun.{IsLegalRun}
use Rattle.dt_events.specs.Stamps.{events_of}
use Rattle.dt_site.specs.SessionsStandIn.{SessionsStandIn}
use Rattle.dt_site.specs.StandsIn.{StandsIn}
use Rattle.dt_node.specs.NodeView.{NodeView, number_of}
use Rattle.dt_node.specs.Packets.{IsToldOf, IsTruePacket}

-- another region has placed at least as many of a node's requests, and received at least as much of its log, as the node
-- knows of it
pub record KnowsNoMore (w : World) (n : NodeView) (other : ℕ) : Type 0 where
  pub took : get_or n.took other 0 ≤ taken_of w other (number_of n)
  pub received : get_or n.received other 0 ≤ received_of w other (number_of n)

-- a node stands in the world after these events, which are legal and each change something
pub record NodeFits (cluster : Cluster) (workload : Workload) (events : List Event) (n : NodeView) : Type 0 where
  pub run : IsLegalRun cluster workload events
  pub changing : AllChange cluster workload (opening_world cluster workload) events
  -- it is one of the regions, and so are its sessions
  pub number : number_of n < cluster.regions
  pub site : StandsIn cluster.regions (world_after cluster workload events) (number_of n) n.site
  pub sessions : SessionsStandIn cluster workload (world_after cluster workload events) (number_of n) n.sessions
  -- its sessions are counted by 32 bits
  pub few : length n.sessions.seats < 2 ^ 32
  -- it knows something of each region, and of the others no more than is so
  pub took : length n.took ≡ cluster.regions
  pub received : length n.received ≡ cluster.regions
  pub knows : (other : ℕ) → other ≢ number_of n → KnowsNoMore (world_after cluster workload events) n other

-- a packet is one that another region sent to this node's
pub record IsFor (regions me : ℕ) (p : Packet) : Type 0 where
  pub target : p.target ≡ me
  pub other : p.source ≢ me
  pub source : p.source < regions

-- packets for a node's region, of which all that they say is so after these events
pub record AreTold (cluster : Cluster) (workload : Workload) (events : List Event) (packets : List Packet) (n : NodeView) : Type 0 where
  pub addressed : AllIn (IsFor cluster.regions (number_of n)) packets
  pub told : AllIn (IsToldOf (world_after cluster workload events)) packets

-- there is a world in which a node stands and these packets, which wait for it, are true; and its stamps leave room
pub record NodeStands (procs : List ProcTree) (packets : List Packet) (n : NodeView) : Type 0 where
  pub cluster : Cluster
  pub workload : Workload
  pub all : List Stamped
  pub procs_are : procs ≡ cluster.procs
  pub fits : NodeFits cluster workload (events_of all) n
  pub addressed : AllIn (IsFor cluster.regions (number_of n)) packets
  pub true_packets : AllIn (IsTruePacket cluster workload all) packets
  pub heard : latest_stamp n.site.region < 2 ^ 60
  pub packet_stamps : AllIn (λ p. p.stamp < 2 ^ 60) packets
