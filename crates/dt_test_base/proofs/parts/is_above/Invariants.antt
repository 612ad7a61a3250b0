use Rattle.std.proofs.Common.{take}
use Rattle.dt_lists.specs.Lists.{AllIn}
use Rattle.dt_access.specs.Orders.{KeyBefore}
use Rattle.dt_test_base.proofs.parts.is_above.Given as goal

abbrev pub invariant-loop-entry : goal.invariant-loop-entry
invariant-loop-entry l = AllIn (λ e. KeyBefore e.0 l.key) (take l.entry-index l.keys)
