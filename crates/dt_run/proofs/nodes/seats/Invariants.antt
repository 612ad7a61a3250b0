use Rattle.std.proofs.Common.{◌≡◌, map}
use Rattle.std.specs.List.{range_with_len}
use Rattle.dt_lists.specs.Lists.{AllIn}
use Rattle.dt_region.specs.Sound.{IsSoundRegion}
use Rattle.dt_node.specs.NodeView.{opening_node_of}
use Rattle.dt_run.specs.SeatsInner.{new_seat}
use Rattle.dt_run.proofs.nodes.seats.Given as goal

abbrev pub invariant-loop-region : goal.invariant-loop-region
invariant-loop-region g l = record {
  opening : l.seats.items ≡ map (λ region. new_seat (opening_node_of l.cluster l.workload region)) (range_with_len 0 l.region);
  sound : AllIn (λ seat. IsSoundRegion seat.node.site.region.state) l.seats.items;
}
