use Rattle.std.proofs.Common.{take}
use Rattle.dt_lists.specs.Lists.{Has}
use Rattle.dt_graph.specs.LinksInner.{HasLinked}
use Rattle.dt_graph.proofs.class.link_slot.Given as goal

abbrev pub invariant-loop-neighbour : goal.invariant-loop-neighbour
invariant-loop-neighbour l = HasLinked (Has (take l.neighbour-index l.neighbour-items)) l.group l.place l.initial.graph l.graph l.blocked
