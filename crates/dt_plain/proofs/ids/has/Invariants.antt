use Rattle.std.proofs.Common.{◌↔◌, drop}
use Rattle.dt_lists.specs.Lists.{Has}
use Rattle.dt_plain.proofs.ids.has.Given as goal

abbrev pub invariant-loop-other : goal.invariant-loop-other
invariant-loop-other l = Has (drop l.other-index l.ids) l.id ↔ Has l.ids l.id
