use Rattle.std.proofs.Common.{take}
use Rattle.dt_plain.specs.SurroundingsInner.{EdgeInto}
use Rattle.dt_plain.specs.GraphsInner.{Gains}
use Rattle.dt_plain.proofs.graph.link_front.Given as goal

abbrev pub invariant-loop-earlier : goal.invariant-loop-earlier
invariant-loop-earlier l = Gains (EdgeInto (take l.earlier-index l.front) l.part) l.initial.links l.links
