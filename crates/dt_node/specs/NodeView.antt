-- A node: one region of a cluster that runs by itself, with the sessions that stand at it. It sees no other region, and
-- learns of them by packets alone. So it keeps of each other region how far that one is known to have come with what it is
-- owed: how many of the node's requests it has placed, and how much of the node's log it has received. A node may know less
-- than there is, and never more. One learns here what a node is, and what it sends to another region (`packet_for`): all that
-- this one is not known to have, as far as a packet holds it. Read next: `Packets`, for what makes a packet true.
use Rattle.std.specs.Prelude.{ℕ, ◌+◌, List, [], length, drop, filter_map, get_or, max, take, replicate, nat_lt, Option, option_map, if◌then◌else◌}
use Rattle.dt_access.specs.declared.Part.{Part}
use Rattle.dt_events.specs.declared.Stamped.{Stamped}
use Rattle.dt_sched.specs.Views.{log_at}
use Rattle.dt_txn.specs.declared.Entry.{Entry}
use Rattle.dt_txn.specs.declared.Txn.{Txn}
use Rattle.dt_txn.specs.Replica.{taken_from}
use Rattle.dt_events.specs.Stamps.{last_stamp}
use Rattle.dt_region.specs.Region.{RegionState, held}
use Rattle.dt_packet.specs.declared.packet.Packet.{Packet}
use Rattle.dt_packet.specs.declared.loss.LossPlan.{LossPlan}
use Rattle.dt_cluster.specs.declared.Cluster.{Cluster}
use Rattle.dt_workload.specs.declared.Workload.{Workload}
use Rattle.dt_session.specs.Sessions.{SessionsView, all_idle}
use Rattle.dt_session.specs.World.{opening_table}
use Rattle.dt_site.specs.Site.{SiteView, opening_site}

-- a node
pub record NodeView : Type 0 where
  -- its region, and whose the submissions of that are
  pub site : SiteView
  -- the sessions that stand at it
  pub sessions : SessionsView
  -- of each other region, how many of this one's requests to it that one is known to have placed
  pub took : List ℕ
  -- of each other region, how much of this one's log that one is known to have received
  pub received : List ℕ
  -- which of the packets that it sends are lost, and which come twice
  pub plan : LossPlan
  -- how many turns it has made, and so packets it has sent to each other region
  pub turns : ℕ

-- the number of a node's region
abbrev pub number_of : NodeView → ℕ
number_of n = n.site.region.state.number

-- the node of a region of a cluster before anything happens
abbrev pub opening_node_of : Cluster → Workload → ℕ → NodeView
opening_node_of cluster workload region = record {
  site = opening_site region cluster.regions (opening_table cluster);
  sessions = all_idle cluster.tries region workload;
  took = replicate cluster.regions 0;
  received = replicate cluster.regions 0;
  plan = record { drop = cluster.drop; repeat = cluster.repeat };
  turns = 0;
}

-- the region at the other end of a node's link of this number: the links are to all other regions, in ascending order
abbrev pub other_at : ℕ → ℕ → ℕ
other_at me link = if nat_lt link me then link else link + 1

-- the most requests, and the most entries, that a packet has
unfoldable pub most_items : ℕ
most_items = 256

-- what a packet holds of a list, if all of it before this place has arrived: what follows, as far as there is room
abbrev pub stretch_from : {A : Type 0} → ℕ → List A → List A
stretch_from first items = take most_items (drop first items)

-- a part of a log with its transaction, which the region holds
abbrev pub entry_held : RegionState → Part → Option Entry
entry_held s part = option_map (λ txn. record { part = part; txn = txn }) (held s part.id)

-- the requests for another region in the next packet to it: as many of those that the node asked of it as there is room for, each
-- with its transaction. The node holds them all, so none is left out (`LeavesNothingOut`)
abbrev pub requests_for : NodeView → ℕ → List Txn
requests_for n target = filter_map (held n.site.region.state) (stretch_from (get_or n.took target 0) (get_or n.site.region.state.here.asked target []))

-- the entries of the node's own log in the next packet to another region: as many of its parts as there is room for, each with its
-- transaction, and none of these is left out either
abbrev pub entries_for : NodeView → ℕ → List Entry
entries_for n target = filter_map (entry_held n.site.region.state) (stretch_from (get_or n.received target 0) (log_at n.site.region.state.logs (number_of n)))

-- what the node sends to another region at the end of a turn
abbrev pub packet_for : NodeView → ℕ → Packet
packet_for n target = record {
  source = number_of n;
  target = target;
  stamp = last_stamp n.site.region.events;
  asked_at = get_or n.took target 0;
  asked = requests_for n target;
  log_at = get_or n.received target 0;
  entries = entries_for n target;
  took = taken_from n.site.region.state.here target;
  received = length (log_at n.site.region.state.logs target);
}

-- a node that heard of a stamp
abbrev pub heard_by : NodeView → ℕ → NodeView
heard_by n stamp = record n { site = record n.site { region = record n.site.region { heard = max n.site.region.heard stamp } } }

-- the events that a node made on its way from one state to a later one
abbrev pub new_items : NodeView → NodeView → List Stamped
new_items before after = drop (length before.site.region.events) after.site.region.events
