use Rattle.std.proofs.Common.{◌≡◌, map}
use Rattle.std.specs.List.{range_with_len}
use Rattle.dt_node.specs.NodeView.{number_of, other_at, packet_for}
use Rattle.dt_node.proofs.node.Node.packets.Given as goal

abbrev pub invariant-loop-link : goal.invariant-loop-link
invariant-loop-link g l = l.packets.items ≡ map (λ link. packet_for l.self (other_at (number_of l.self) link)) (range_with_len 0 l.link)
