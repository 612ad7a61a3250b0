use Rattle.std.proofs.Common.{arith}
use Rattle.std.proofs.lemmas.List.{length-map}
use Rattle.dt_access.specs.declared.access.Mode.TheVariants.{Whole, Write}
use Rattle.dt_queue.specs.declared.row.Row.{Row}
use Rattle.dt_queue.specs.KeptInner.{lane}
use Rattle.dt_queue.specs.LanesInner.{IsLastBetween, number_or}
use Rattle.dt_queue.specs.RowsInner.{granule_at, links}
use Rattle.dt_queue.proofs.NearCells.{near_or_taker, one_in_mode}
use Rattle.dt_queue.proofs.NearMarks.{near_last}
use Rattle.dt_queue.proofs.kept.Kept.near_one.Goals as goal

pub granule_of-granule-requires : goal.granule_of-granule-requires
granule_of-granule-requires c = let k = c.args.self.now in omega (arith, c.requires.row_in, c.requires.kept.linked.each_row, length-map k.rows.table.items (λ (r : Row). r.granule))

pub returns : goal.returns
returns c =
    let k = c.args.self.now in
    let x = c.args.cell.now in
    let o = c.last_between-whole.result in
    let w = c.last_write-write.result in
    let last : IsLastBetween 0 x.number (lane k Whole (granule_at (links k.rows) x.row)) o = rw c.granule_of-granule.ensures at c.last_between-whole.ensures in
    let last_write : IsLastBetween (number_or o 0) x.number (lane k Write x.row) w = rw (c.as_slice.ensures.value, c.number_or-low.ensures) at c.last_write-write.ensures in
    rw c.or.ensures
    (near_or_taker k c.requires.kept x o last w (one_in_mode k x (number_or o 0) _ c.requires.one (near_last (lane k Write x.row) (number_or o 0) x.number w (c.requires.kept.lanes Write x.row).numbered last_write)))
