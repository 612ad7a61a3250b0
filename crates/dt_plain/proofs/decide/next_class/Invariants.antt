use Rattle.std.proofs.Common.{take}
use Rattle.dt_lists.specs.Lists.{AllIn}
use Rattle.dt_plain.proofs.Choice.{IsNotResolvable}
use Rattle.dt_plain.proofs.decide.next_class.Given as goal

abbrev pub invariant-loop-id : goal.invariant-loop-id
invariant-loop-id l = AllIn (IsNotResolvable l.graph l.resolved l.done) (take l.id-index l.id-items)
