-- The values so far.
use Rattle.std.proofs.Common.{take}
use Rattle.dt_lists.specs.Lists.{AllIn}
use Rattle.dt_report.specs.Printable.{MayBePrinted}
use Rattle.dt_report.proofs.printable.values_may_be_printed.Given as goal

abbrev pub invariant-loop-value : goal.invariant-loop-value
invariant-loop-value l = AllIn MayBePrinted (take l.value-index l.values)
