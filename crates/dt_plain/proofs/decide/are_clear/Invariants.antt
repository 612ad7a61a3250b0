use Rattle.std.proofs.Common.{◌↔◌, drop}
use Rattle.dt_lists.specs.Lists.{AllIn}
use Rattle.dt_plain.specs.SurroundingsInner.{IsClear}
use Rattle.dt_plain.proofs.decide.are_clear.Given as goal

abbrev pub invariant-loop-other : goal.invariant-loop-other
invariant-loop-other l = AllIn (IsClear l.graph l.ahead l.done l.id) (drop l.other-index l.behind) ↔ AllIn (IsClear l.graph l.ahead l.done l.id) l.behind
