-- Only proofs need this file, and the private calls of sending: what a node has to know so that it can send, the packets that it
-- makes for the links, and outlets after each was put. Read `TurnPackets` for what a turn sends.
use Rattle.std.specs.Prelude.{◌≡◌, ◌-◌, ℕ, List, [], ◌∷◌, ◌++◌, length, map, filter_map}
use Rattle.std.specs.List.{range_with_len}
use Rattle.dt_packet.specs.declared.packet.Packet.{Packet}
use Rattle.dt_packet.specs.Links.{OutletView}
use Rattle.dt_sched.specs.Views.{log_at}
use Rattle.dt_txn.specs.declared.Entry.{Entry}
use Rattle.dt_region.specs.Region.{RegionState}
use Rattle.dt_node.specs.NodeView.{NodeView, entry_held, number_of, other_at, packet_for, stretch_from}

-- a node that knows something of each region, so that it can send
pub record IsReady (n : NodeView) : Type 0 where
  pub took : length n.took ≡ n.site.region.state.regions
  pub received : length n.received ≡ n.site.region.state.regions

-- the entries of a region's own log that a packet has which begins at this place
abbrev pub entries_from : RegionState → ℕ → List Entry
entries_from s first = filter_map (entry_held s) (stretch_from first (log_at s.logs s.number))

-- a packet has these entries from its own place on
abbrev pub HasEntriesOf : RegionState → Packet → Type 0
HasEntriesOf s packet = packet.entries ≡ entries_from s packet.log_at

-- the packets for the other regions of the first n links
abbrev pub packets_for : NodeView → ℕ → List Packet
packets_for n links = map (λ link. packet_for n (other_at (number_of n) link)) (range_with_len 0 links)

-- an outlet after a packet was put on it
abbrev pub put_one : OutletView → Packet → OutletView
put_one out packet = record { put = out.put ++ packet ∷ []; free = out.free - 1 }

-- outlets after one packet was put on each of them
abbrev pub put_at : List OutletView → List Packet → List OutletView
put_at [] packets = []
put_at (out ∷ outs) [] = out ∷ outs
put_at (out ∷ outs) (packet ∷ packets) = put_one out packet ∷ put_at outs packets
