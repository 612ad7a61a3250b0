-- What a turn sends. Each other region is sent one packet, the same number on all links, and the plan says of that number
-- whether the packet is put once, twice or not at all. One learns here what stands on the outlets then (`HasSent`),
-- and that no packet lacks anything that it should have (`LeavesNothingOut`). Read next: src/lib.rt.
use Rattle.std.specs.Prelude.{◌≡◌, ◌<◌, ◌+◌, ℕ, List, [], ◌∷◌, ◌++◌, length, map, get_or}
use Rattle.dt_packet.specs.declared.packet.Packet.{Packet}
use Rattle.dt_packet.specs.declared.loss.LossPlan.{LossPlan}
use Rattle.dt_packet.specs.declared.loss.Verdict.{Verdict}
use Rattle.dt_packet.specs.declared.loss.Verdict.TheVariants.{Pass, Lost, Twice}
use Rattle.dt_packet.specs.Links.{OutletView}
use Rattle.dt_packet.specs.Loss.{IsVerdict}
use Rattle.dt_sched.specs.Views.{log_at}
use Rattle.dt_node.specs.NodeView.{NodeView, entries_for, number_of, other_at, packet_for, requests_for, stretch_from}

-- as often as a verdict says a packet is put, one right after the other
abbrev pub copies_of : Verdict → Packet → List Packet
copies_of Lost packet = []
copies_of Pass packet = packet ∷ []
copies_of Twice packet = packet ∷ packet ∷ []

-- stands in where there is no such thing: an outlet
abbrev pub no_outlet : OutletView
no_outlet = record { put = []; free = 0 }

-- an outlet with packets put on it, one after another
pub record ArePut (packets : List Packet) (before after : OutletView) : Type 0 where
  pub put : after.put ≡ before.put ++ packets
  pub free : before.free ≡ after.free + length packets

-- a packet of this number was put on an outlet as often as the plan says
pub record IsSentBy (plan : LossPlan) (number : ℕ) (packet : Packet) (before after : OutletView) : Type 0 where
  pub verdict : Verdict
  pub is : IsVerdict plan number verdict
  pub put : ArePut (copies_of verdict packet) before after

-- a turn has sent its packets, each as the node is now: one turn more is made, whose number is that of the packets
pub record HasSent (before now : NodeView) (outs_before outs_now : List OutletView) : Type 0 where
  pub turns : now.turns ≡ before.turns + 1
  pub many : length outs_now ≡ length outs_before
  pub each : (link : ℕ) → link < length outs_before
      → IsSentBy now.plan now.turns (packet_for now (other_at (number_of now) link)) (get_or outs_before link no_outlet) (get_or outs_now link no_outlet)

-- a node's next packet to another region has all that stands on its stretches: each request that the node asked of the region,
-- and each part of its own log
pub record LeavesNothingOut (n : NodeView) (target : ℕ) : Type 0 where
  pub asked : map (λ txn. txn.id) (requests_for n target) ≡ stretch_from (get_or n.took target 0) (get_or n.site.region.state.here.asked target [])
  pub entries : map (λ e. e.part) (entries_for n target) ≡ stretch_from (get_or n.received target 0) (log_at n.site.region.state.logs (number_of n))
