use Rattle.std.proofs.Common.{take}
use Rattle.dt_plain.specs.SurroundingsInner.{EdgeWithin}
use Rattle.dt_plain.specs.GraphsInner.{Gains}
use Rattle.dt_plain.proofs.graph.link_log.Given as goal

abbrev pub invariant-loop-at : goal.invariant-loop-at
invariant-loop-at l = Gains (EdgeWithin (take l.at l.log)) l.initial.links l.links
