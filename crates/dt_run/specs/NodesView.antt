-- All nodes of a cluster, and the links between them. A cluster runs in phases: in each every node makes one turn, beside all
-- others, and sees nothing of what they do meanwhile. What a node sends in one phase waits on a link until the next. One
-- learns here what is seen of them all between two phases: each node, the packets that wait on each link, and of each region
-- how many events it had kept after each phase (its marks). Read next: `Marks`, for what a region may know in which phase.
use Rattle.std.specs.Prelude.{◌-◌, ℕ, List, [], flat_map, get_or, map, nat_lt, replicate, Bool, false, if◌then◌else◌}
use Rattle.std.specs.List.{range_with_len}
use Rattle.dt_events.specs.declared.Stamped.{Stamped}
use Rattle.dt_packet.specs.declared.packet.Packet.{Packet}
use Rattle.dt_cluster.specs.declared.Cluster.{Cluster}
use Rattle.dt_workload.specs.declared.Workload.{Workload}
use Rattle.dt_site.specs.SessionsStandIn.{no_sessions}
use Rattle.dt_site.specs.Site.{no_site}
use Rattle.dt_node.specs.NodeView.{NodeView, opening_node_of}

-- all nodes of a cluster with a workload
pub record NodesView : Type 0 where
  pub cluster : Cluster
  pub workload : Workload
  -- the node of each region, by its number
  pub nodes : List NodeView
  -- the packets that wait for each region, on each of its links from the other ones, in ascending order of these
  pub waiting : List (List (List Packet))
  -- the marks of each region
  pub marks : List (List ℕ)
  -- some phase has run out of memory; then links and marks are given up
  pub broken : Bool

-- stands in where there is no such thing: a node
abbrev pub no_running_node : NodeView
no_running_node = record {
  site = no_site;
  sessions = no_sessions;
  took = [];
  received = [];
  plan = record { drop = 0; repeat = 0 };
  turns = 0;
}

-- the node of a region, among those of all
abbrev pub node_among : List NodeView → ℕ → NodeView
node_among nodes region = get_or nodes region no_running_node

-- the node of a region
abbrev pub node_in : NodesView → ℕ → NodeView
node_in v region = node_among v.nodes region

-- the number, at a region, of its link to another one, or of its link from it: they are in ascending order of the others
abbrev pub link_to : ℕ → ℕ → ℕ
link_to me other = if nat_lt other me then other else other - 1

-- the packets that wait on the link from one region to another
abbrev pub waiting_between : NodesView → ℕ → ℕ → List Packet
waiting_between v source target = get_or (get_or v.waiting target []) (link_to target source) []

-- all packets that wait for a region
abbrev pub waiting_at : NodesView → ℕ → List Packet
waiting_at v target = flat_map (λ packets. packets) (get_or v.waiting target [])

-- what each of some nodes has kept
abbrev pub kept_by : List NodeView → List (List Stamped)
kept_by nodes = map (λ n. n.site.region.events) nodes

-- the marks of a region
abbrev pub marks_at : NodesView → ℕ → List ℕ
marks_at v region = get_or v.marks region []

-- all nodes of a cluster with a workload before anything happens
abbrev pub opening_nodes : Cluster → Workload → NodesView
opening_nodes cluster workload = record {
  cluster = cluster;
  workload = workload;
  nodes = map (opening_node_of cluster workload) (range_with_len 0 cluster.regions);
  waiting = replicate cluster.regions (replicate (cluster.regions - 1) []);
  marks = replicate cluster.regions [];
  broken = false;
}
