-- The lines so far.
use Rattle.std.proofs.Common.{◌≡◌, ◌++◌, take}
use Rattle.std.specs.List.{flat_map}
use Rattle.dt_report.specs.Report.{ran_line}
use Rattle.dt_report.proofs.printed.put_order.Given as goal

abbrev pub invariant-loop-ran : goal.invariant-loop-ran
invariant-loop-ran l = l.out.items ≡ l.initial.out.items ++ flat_map ran_line (take l.ran-index l.order)
