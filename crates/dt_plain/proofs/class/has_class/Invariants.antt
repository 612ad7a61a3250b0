use Rattle.std.proofs.Common.{◌↔◌, drop}
use Rattle.dt_lists.specs.Lists.{Has}
use Rattle.dt_plain.proofs.class.has_class.Given as goal

abbrev pub invariant-loop-class : goal.invariant-loop-class
invariant-loop-class l = Has (drop l.class-index l.classes) l.ids ↔ Has l.classes l.ids
