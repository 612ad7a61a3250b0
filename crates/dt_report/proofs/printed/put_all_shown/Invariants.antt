-- What is still to be appended of the tables makes the text whole, and the tables so far are printable.
use Rattle.std.proofs.Common.{◌≡◌, ◌++◌, drop}
use Rattle.dt_lists.specs.Lists.{AllIn}
use Rattle.dt_report.specs.Printable.{IsPrintableRow}
use Rattle.dt_report.specs.Report.{tables_text}
use Rattle.dt_report.specs.ShownTables.{all_shown}
use Rattle.dt_report.proofs.printed.put_all_shown.Given as goal

abbrev pub invariant-loop-region : goal.invariant-loop-region
invariant-loop-region l = record {
  text : l.out.items ++ tables_text l.region (drop l.region (all_shown l.tables)) ≡ l.initial.out.items ++ tables_text 0 (all_shown l.tables);
  printable : AllIn (AllIn IsPrintableRow) (drop l.region (all_shown l.tables)) → AllIn (AllIn IsPrintableRow) (all_shown l.tables);
}
