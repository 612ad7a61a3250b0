use Rattle.std.proofs.Common.{◌≡◌, ◌<◌, ◌≤◌, Bor, arith, get_or, length, sym, ap, ◌∙◌}
use Rattle.std.proofs.lemmas.List.{get_or-map, length-map}
use Rattle.dt_table.specs.Table.{TableView, shown}
use Rattle.dt_lists.specs.Lists.{AllIn}
use Rattle.dt_report.specs.Printable.{IsPrintableRow}
use Rattle.dt_report.specs.ShownTables.{all_shown}
use Rattle.dt_report.proofs.WordsAndLines.{held_all, held_more, table_put, tables_put}
use Rattle.dt_report.proofs.printed.put_all_shown.Goals as goal

pub loop-region-preserved : goal.loop-region-preserved
loop-region-preserved c =
    let tables = c.args.tables.now in
    let show = λ (t : Bor TableView). shown t.now.state in
    let table = c.index-tables-region.result in
    let within : c.loop-region.region < length tables = omega arith in
    let many : c.loop-region.region < length (all_shown tables) = omega (arith, length-map tables show) in
    let same : show table ≡ get_or (all_shown tables) c.loop-region.region (show table) = ap show c.index-tables-region.is ∙ sym (get_or-map show tables c.loop-region.region table (show table) within) in
    record {
      text = table_put _ _ _ (all_shown tables) c.loop-region.region (show table) many same c.loop-region.invariant.text c.in_ok-put_shown.ensures.text;
      printable = held_more (AllIn IsPrintableRow) (all_shown tables) c.loop-region.region (show table) many same c.in_ok-put_shown.ensures.printable c.loop-region.invariant.printable;
    }

pub returns : goal.returns
returns c =
    let tables = c.args.tables.now in
    let none : length (all_shown tables) ≤ c.loop-region.region = omega (arith, length-map tables (λ (t : Bor TableView). shown t.now.state)) in
    record {
      text = tables_put _ _ (all_shown tables) c.loop-region.region none c.loop-region.invariant.text;
      printable = held_all (AllIn IsPrintableRow) (all_shown tables) c.loop-region.region none c.loop-region.invariant.printable;
    }
