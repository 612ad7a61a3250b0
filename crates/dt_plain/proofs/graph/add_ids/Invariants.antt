use Rattle.std.proofs.Common.{take}
use Rattle.dt_plain.specs.GraphsInner.{GetsIds}
use Rattle.dt_plain.proofs.graph.add_ids.Given as goal

abbrev pub invariant-loop-part : goal.invariant-loop-part
invariant-loop-part l = GetsIds (take l.part-index l.log) l.initial.ids l.ids
