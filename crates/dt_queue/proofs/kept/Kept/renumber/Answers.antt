use Rattle.std.proofs.Common.{◌≡◌, Some, ap, refl, subst, sym, ◌∙◌}
use Rattle.slab.specs.Slab.{Slab, Updates, get, with_value}
use Rattle.dt_lists.proofs.Callers.{some_same}
use Rattle.dt_queue.specs.RowsInner.{links}
use Rattle.dt_queue.specs.declared.cell.Cell.{Cell}
use Rattle.dt_queue.specs.declared.kept.Kept.{Kept}
use Rattle.dt_queue.specs.KeptInner.{place_at}
use Rattle.dt_queue.proofs.LanesOfCells.{same_lanes, same_self}
use Rattle.dt_queue.proofs.NewNumbers.{cell_set, first_is, gap_in, kept_renumbered, shown_renumbered}
use Rattle.dt_queue.proofs.kept.Kept.renumber.Goals as goal

pub renumber_mark-requires-clause-gap : goal.renumber_mark-requires-clause-gap
renumber_mark-requires-clause-gap c =
    let k = c.args.self.now in
    let x : Cell = c.index-cell.result.now in
    gap_in k c.requires.kept x.number c.args.number (first_is k.cells c.args.slot c.args.number x c.index-cell.ensures c.requires.first).1 x.mode (place_at (links k.rows) x.mode x.row)

pub returns-clause-same : goal.returns-clause-same
returns-clause-same c =
    let k : Kept = c.args.self.now in
    let x : Cell = c.index-cell.result.now in
    let y : Cell = c.index_mut.result.now in
    let marked : Kept = c.renumber_mark.new.self in
    let change = c.renumber_mark.ensures in
    let n : Kept = record marked { cells = with_value marked.cells c.args.slot (record y { number = c.args.number }) } in
    let one : y ≡ x = some_same (sym c.index_mut.ensures.value ∙ ap (λ (s : Slab Cell). get s c.args.slot) change.cells ∙ c.index-cell.ensures) in
    let up : Updates k.cells n.cells c.args.slot (Some (record x { number = c.args.number })) =
    subst (λ (z : Cell). Updates k.cells n.cells c.args.slot (Some (record z { number = c.args.number }))) one
    (cell_set k.cells marked.cells c.args.slot x (record y { number = c.args.number }) change.cells c.index-cell.ensures) in
    let first = first_is k.cells c.args.slot c.args.number x c.index-cell.ensures c.requires.first in
    let kept = kept_renumbered k n c.args.slot x c.args.number c.requires.kept change.rows c.index-cell.ensures up first.0 first.1 change.number c.requires.positive
    (same_lanes n marked (same_self _) (same_self _) refl _ _ ∙ change.changed)
    (λ m p ne. same_lanes n marked (same_self _) (same_self _) refl m p ∙ change.others m p ne) c.requires.free change.listed in
    record {
      kept = kept;
      rows = change.rows;
      shown = shown_renumbered k n c.args.slot x c.args.number c.requires.kept change.rows c.index-cell.ensures up first.0 first.1 kept;
    }
