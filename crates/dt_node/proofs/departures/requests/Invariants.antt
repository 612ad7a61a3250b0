use Rattle.std.proofs.Common.{◌≡◌, ◌-◌, drop, take}
use Rattle.std.specs.Prelude.{filter_map}
use Rattle.dt_region.specs.Region.{held}
use Rattle.dt_node.proofs.departures.requests.Given as goal

abbrev pub invariant-loop-place : goal.invariant-loop-place
invariant-loop-place g l = l.txns ≡ filter_map (held l.region.state) (take (l.place - l.first) (drop l.first l.asked))
