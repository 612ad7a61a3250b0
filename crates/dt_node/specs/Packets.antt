-- When a packet is true. A packet says what its source had at some time: requests, entries of its log, and how far it had
-- come with the requests and the log of the target. One learns here when that is so in a world (`IsToldOf`), and what it is for
-- a packet to be true after the stamped events of all regions (`IsTruePacket`): what it says was so as soon as its source had
-- made its events up to the packet's stamp, and the target has all that comes before it. So a target that hears the stamp
-- before it uses the packet gives its own events greater stamps than those of what it uses. Read next: `NodeInWorld`, when a
-- node stands in a world.
use Rattle.std.specs.Prelude.{◌≡◌, ◌+◌, ◌≤◌, List, ◌++◌, length, drop, map, take, Some}
use Rattle.dt_lists.specs.Lists.{AllIn}
use Rattle.dt_events.specs.declared.Stamped.{Stamped}
use Rattle.dt_packet.specs.declared.packet.Packet.{Packet}
use Rattle.dt_cluster.specs.declared.Cluster.{Cluster}
use Rattle.dt_workload.specs.declared.Workload.{Workload}
use Rattle.dt_session.specs.World.{World, asked_of, log_of, received_of, taken_of, txn_of}
use Rattle.dt_session.specs.Run.{world_after}
use Rattle.dt_events.specs.Stamps.{events_of}
use Rattle.dt_merge.specs.Merge.{AreLater}
use Rattle.dt_node.specs.NodeView.{most_items}

-- what a packet says is so in a world
pub record IsToldOf (w : World) (p : Packet) : Type 0 where
  -- its requests are a stretch of what the source asked of the target, each with the transaction of its id
  pub asked_to : p.asked_at + length p.asked ≤ length (asked_of w p.source p.target)
  pub asked : map (λ txn. txn.id) p.asked ≡ drop p.asked_at (take (p.asked_at + length p.asked) (asked_of w p.source p.target))
  pub asked_txns : AllIn (λ txn. txn_of w txn.id ≡ Some txn) p.asked
  -- its entries are a stretch of the log of the source, each with the transaction of its part
  pub entries_to : p.log_at + length p.entries ≤ length (log_of w p.source)
  pub entries : map (λ e. e.part) p.entries ≡ drop p.log_at (take (p.log_at + length p.entries) (log_of w p.source))
  pub entry_txns : AllIn (λ e. txn_of w e.part.id ≡ Some e.txn) p.entries
  -- the source has come at least that far with the requests and the log of the target
  pub took : p.took ≤ taken_of w p.source p.target
  pub received : p.received ≤ received_of w p.source p.target

-- a packet is true after these stamped events
pub record IsTruePacket (cluster : Cluster) (workload : Workload) (all : List Stamped) (p : Packet) : Type 0 where
  -- it is no larger than packets are
  pub few_asked : length p.asked ≤ most_items
  pub few_entries : length p.entries ≤ most_items
  -- the target has all that comes before its requests and before its entries
  pub asked_from : p.asked_at ≤ taken_of (world_after cluster workload (events_of all)) p.target p.source
  pub entries_from : p.log_at ≤ received_of (world_after cluster workload (events_of all)) p.target p.source
  -- what it says is so, and was so whenever only events with greater stamps were still to come from its source
  pub told : (front rest : List Stamped) → all ≡ front ++ rest → AreLater p.source p.stamp rest → IsToldOf (world_after cluster workload (events_of front)) p
