use Rattle.std.proofs.Common.{◌≡◌, ◌-◌, drop, take}
use Rattle.std.specs.Prelude.{filter_map}
use Rattle.dt_node.specs.NodeView.{entry_held}
use Rattle.dt_node.proofs.departures.entries.Given as goal

abbrev pub invariant-loop-place : goal.invariant-loop-place
invariant-loop-place g l = l.entries ≡ filter_map (entry_held l.region.state) (take (l.place - l.first) (drop l.first l.log))
