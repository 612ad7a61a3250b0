use Rattle.std.proofs.Common.{None, sym, subst, arith}
use Rattle.std.proofs.lemmas.List.{length-map}
use Rattle.slab.specs.Slab.{Slab, Updates}
use Rattle.dt_queue.specs.declared.row.Row.{Row}
use Rattle.dt_queue.specs.declared.cell.Cell.{Cell}
use Rattle.dt_queue.specs.declared.kept.Kept.{Kept}
use Rattle.dt_queue.proofs.LanesOfCells.{TakesCell, kept_removed}
use Rattle.dt_queue.proofs.RowsUsed.{rows_removed}
use Rattle.dt_queue.proofs.kept.Kept.remove.Goals as goal

pub remove_mark-requires : goal.remove_mark-requires
remove_mark-requires c = let k = c.args.self.now in omega (arith, c.requires.kept.known c.args.slot c.remove-cell.result c.remove-cell.ensures.value, c.requires.kept.linked.each_row, length-map k.rows.table.items (λ (r : Row). r.granule))

pub returns : goal.returns
returns c =
    let k : Kept = c.args.self.now in
    let x : Cell = c.remove-cell.result in
    let n : Kept = c.remove_mark.new.self in
    let change = c.remove_mark.ensures in
    let updates : Updates k.cells n.cells c.args.slot None = subst (λ (s : Slab Cell). Updates k.cells s c.args.slot None) (sym change.cells) c.remove-cell.ensures.updates in
    let take : TakesCell k n c.args.slot x = record {
      there = c.remove-cell.ensures.value;
      cells = updates;
      changed = change.changed;
      others = change.others;
      rows = change.rows;
      listed = change.listed;
      number = change.number;
    } in
    record {
      kept = kept_removed k n c.args.slot x c.requires.kept take (rows_removed k n c.args.slot x c.requires.kept take);
      updates = updates;
      rows = change.rows;
    }
