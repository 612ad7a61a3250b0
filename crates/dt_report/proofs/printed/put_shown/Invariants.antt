-- What is still to be appended of the rows makes the text whole, and the rows so far are printable.
use Rattle.std.proofs.Common.{◌≡◌, ◌++◌, map}
use Rattle.std.specs.List.{flat_map}
use Rattle.std.specs.Vec.Iter.{into_iter_items}
use Rattle.dt_lists.specs.Lists.{AllIn}
use Rattle.dt_table.specs.Table.{shown_at}
use Rattle.dt_report.specs.Printable.{IsPrintableRow}
use Rattle.dt_report.specs.Report.{row_line}
use Rattle.dt_report.proofs.printed.put_shown.Given as goal

abbrev pub invariant-loop-key : goal.invariant-loop-key
invariant-loop-key l = record {
  text : l.out.items ++ flat_map row_line (map (shown_at l.table.state) (into_iter_items l.key-iterator))
      ≡ l.initial.out.items ++ flat_map row_line (map (shown_at l.table.state) (into_iter_items l.initial.key-iterator));
  printable : AllIn IsPrintableRow (map (shown_at l.table.state) (into_iter_items l.key-iterator))
      → AllIn IsPrintableRow (map (shown_at l.table.state) (into_iter_items l.initial.key-iterator));
}
