use Rattle.std.proofs.Common.{take}
use Rattle.dt_lists.specs.Lists.{AllIn}
use Rattle.dt_plain.proofs.Choice.{IsNotReady}
use Rattle.dt_plain.proofs.decide.next_ready.Given as goal

abbrev pub invariant-loop-id : goal.invariant-loop-id
invariant-loop-id l = AllIn (IsNotReady l.graph l.resolved l.done l.busy) (take l.id-index l.id-items)
