-- The ids so far.
use Rattle.std.proofs.Common.{take}
use Rattle.dt_lists.specs.Lists.{AllIn}
use Rattle.dt_report.specs.Printable.{IsSmallId}
use Rattle.dt_report.proofs.printable.ids_are_small.Given as goal

abbrev pub invariant-loop-id : goal.invariant-loop-id
invariant-loop-id l = AllIn IsSmallId (take l.id-index l.ids)
