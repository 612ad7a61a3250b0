use Rattle.std.proofs.Common.{◌≡◌, map, take}
use Rattle.dt_plain.specs.GraphsInner.{turned_link}
use Rattle.dt_plain.proofs.graph.turned_round.Given as goal

abbrev pub invariant-loop-link : goal.invariant-loop-link
invariant-loop-link l = l.back ≡ map turned_link (take l.link-index l.links)
