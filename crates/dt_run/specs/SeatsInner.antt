-- Scaffolding: how the code keeps nodes and links. Each node has a seat, which may go to a thread of its own in a phase, with the
-- ends of all links of its region. Read `NodesView` for what callers see.
use Rattle.std.specs.Prelude.{◌≡◌, ◌≢◌, ◌<◌, ◌≤◌, ◌+◌, ◌++◌, ◌∷◌, ℕ, List, [], flat_map, get_or, length, map, Bool, false}
use Rattle.dt_lists.specs.Lists.{AllIn, Pairwise}
use Rattle.dt_packet.specs.declared.packet.Packet.{Packet}
use Rattle.dt_packet.specs.Links.{OutletView}
use Rattle.dt_proc.specs.Tree.{ProcTree}
use Rattle.dt_ring.specs.Rings.{AreEnds, RingInView, RingOutView, SameIn, SameOut}
use Rattle.dt_cluster.specs.declared.Cluster.{Cluster}
use Rattle.dt_workload.specs.declared.Workload.{Workload}
use Rattle.dt_node.specs.NodeView.{NodeView}
use Rattle.dt_node.specs.TurnPackets.{HasSent, LeavesNothingOut}
use Rattle.dt_node.specs.NodeInWorld.{NodeStands}
use Rattle.dt_node.specs.Steps.{HasTurned}
use Rattle.dt_node.specs.Turn.{BeginsEagerly, HasTaken, IsSettled, MovesOn}
use Rattle.dt_gen.specs.Summary.{kept_answers}
use Rattle.dt_run.specs.NodesStand.{AreNodes}
use Rattle.dt_run.specs.NodesView.{NodesView, link_to, no_running_node}
use Rattle.dt_run.specs.Silence.{ComesToAnEnd, counts_in}
use Rattle.dt_run.specs.declared.counts.Counts.{Counts}

-- a node at its seat: with its ends of the links from and to the other regions, in ascending order of these, its marks, and
-- whether its last turn failed
pub record SeatView : Type 0 where
  pub node : NodeView
  pub ins : List RingInView
  pub outs : List RingOutView
  pub marks : List ℕ
  pub failed : Bool

-- stands in where there is no such thing: a seat
abbrev pub no_seat : SeatView
no_seat = record { node = no_running_node; ins = []; outs = []; marks = []; failed = false }

-- the seat of a region
abbrev pub seat_at : List SeatView → ℕ → SeatView
seat_at seats region = get_or seats region no_seat

-- a seat before its links are made
abbrev pub new_seat : NodeView → SeatView
new_seat node = record { node = node; ins = []; outs = []; marks = []; failed = false }

-- seats before their links are made
abbrev pub AreNew : List SeatView → Type 0
AreNew seats = AllIn (λ s. s ≡ new_seat s.node) seats

-- what is seen of an outlet
abbrev pub seen_out : RingOutView → OutletView
seen_out out = record { put = out.put; free = out.free }

-- what waits at an inlet, in order
abbrev pub waits_in : RingInView → List Packet
waits_in inlet = inlet.waits

-- how many places a link has
unfoldable pub places_of_link : ℕ
places_of_link = 8

-- the two ends of a link that were just brought beside each other
pub record AreBeside (out : RingOutView) (inlet : RingInView) : Type 0 where
  pub ends : AreEnds out inlet
  pub put : out.put ≡ []
  pub places : out.places ≡ places_of_link
  pub free : out.free + length inlet.waits ≡ out.places

-- the two ends of a link, which need not be beside each other
pub record EndsAreApart (out : RingOutView) (inlet : RingInView) : Type 0 where
  pub ends : AreEnds out inlet
  pub places : out.places ≡ places_of_link

-- each seat has an end of a link from and to each other one
pub record HaveEnds (seats : List SeatView) : Type 0 where
  pub ins : (region : ℕ) → region < length seats → length (seat_at seats region).ins + 1 ≡ length seats
  pub outs : (region : ℕ) → region < length seats → length (seat_at seats region).outs + 1 ≡ length seats

-- the two ends of each link are related by `Link`
pub record AreLinkedBy (Link : RingOutView → RingInView → Type 0) (seats : List SeatView) : Type 0 where
  pub ends : HaveEnds seats
  pub each : (source target : ℕ) → source < length seats → target < length seats → source ≢ target → (d : RingOutView) (e : RingInView)
      → Link (get_or (seat_at seats source).outs (link_to source target) d) (get_or (seat_at seats target).ins (link_to target source) e)

-- a node may make its turn at its seat
pub record SeatCan (procs : List ProcTree) (s : SeatView) : Type 0 where
  pub stands : NodeStands procs (flat_map waits_in s.ins) s.node
  pub ends : length s.outs + 1 ≡ s.node.site.region.state.regions
  pub free : AllIn (λ out. 2 ≤ out.free) s.outs
  pub turns : s.node.turns ≡ length s.marks

-- a turn at a seat that did not fail
pub record SeatTurned (procs : List ProcTree) (before after : SeatView) : Type 0 where
  pub emptied : flat_map waits_in after.ins ≡ []
  pub steps : HasTurned procs (flat_map waits_in before.ins) before.node after.node
  pub taken : HasTaken (flat_map waits_in before.ins) before.node after.node
  pub settled : IsSettled before.node after.node
  pub begins : flat_map waits_in before.ins ≡ [] → BeginsEagerly procs before.node after.node
  pub sent : HasSent before.node after.node (map seen_out before.outs) (map seen_out after.outs)
  pub whole : (target : ℕ) → target < after.node.site.region.state.regions → LeavesNothingOut after.node target
  pub marks : after.marks ≡ before.marks ++ length after.node.site.region.events ∷ []

-- a turn at a seat
pub record SeatGoes (procs : List ProcTree) (before after : SeatView) : Type 0 where
  pub once : MovesOn procs (flat_map waits_in before.ins) before.node after.node
  pub ins : Pairwise SameIn before.ins after.ins
  pub outs : Pairwise SameOut before.outs after.outs
  pub whole : after.failed ≡ false → SeatTurned procs before after

-- a turn at each seat
pub record EachGoes (procs : List ProcTree) (before after : List SeatView) : Type 0 where
  pub many : length after ≡ length before
  pub each : (region : ℕ) → region < length before → SeatGoes procs (seat_at before region) (seat_at after region)

-- what a seat's region submitted is counted by 32 bits
abbrev pub HasFewSubmitted : SeatView → Type 0
HasFewSubmitted s = length s.node.site.region.state.submitted + 1 < 4294967296

-- nodes and links that are kept so, as callers see them
abbrev pub nodes_view : Cluster → Workload → List SeatView → Bool → NodesView
nodes_view cluster workload seats broken = record {
  cluster = cluster;
  workload = workload;
  nodes = map (λ s. s.node) seats;
  waiting = map (λ s. map waits_in s.ins) seats;
  marks = map (λ s. s.marks) seats;
  broken = broken;
}

-- how many events the region of a seat has kept
abbrev pub events_at : SeatView → ℕ
events_at s = length s.node.site.region.events

-- how many answers it has kept
abbrev pub answers_at : SeatView → ℕ
answers_at s = kept_answers s.node.site.region.events

-- what the type of the nodes keeps of its counts: they are those of the nodes, and a run comes to an end
pub record HasCounts (v : NodesView) (counts : Counts) : Type 0 where
  pub are : counts ≡ counts_in v
  pub ends : ComesToAnEnd v

-- what the type of the nodes keeps of nodes and links
pub record AreSeated (cluster : Cluster) (workload : Workload) (seats : List SeatView) (broken : Bool) : Type 0 where
  pub nodes : AreNodes (nodes_view cluster workload seats broken)
  pub linked : broken ≡ false → AreLinkedBy AreBeside seats

-- what the type of the nodes keeps
pub record AreRunning (cluster : Cluster) (workload : Workload) (seats : List SeatView) (broken : Bool) (counts : Counts) : Type 0 where
  pub seated : AreSeated cluster workload seats broken
  pub counted : broken ≡ false → HasCounts (nodes_view cluster workload seats broken) counts
