use Rattle.std.proofs.Common.{◌≡◌, ◌≤◌, arith, option_to_list, subst, sym}
use Rattle.dt_access.specs.declared.access.Mode.TheVariants.{Read, Write, Whole}
use Rattle.std.proofs.lemmas.List.{length-map}
use Rattle.dt_lists.specs.Lists.{Distinct}
use Rattle.dt_queue.specs.declared.row.Row.{Row}
use Rattle.dt_queue.specs.KeptInner.{IsNextMark, lane}
use Rattle.dt_queue.specs.LanesInner.{IsFirstBetween, IsNextInRow, number_or}
use Rattle.dt_queue.specs.ListedInner.{listed_left, rows_between}
use Rattle.dt_queue.specs.NextInner.{AreEachOnce, first_in, marks_left, next_of_row, next_of_rows, or_else_one}
use Rattle.dt_queue.specs.RowsInner.{granule_at, links}
use Rattle.dt_queue.specs.TableInner.{lanes_read, lanes_written}
use Rattle.dt_queue.proofs.CellUses.{apart_lanes}
use Rattle.dt_queue.proofs.NearMarks.{row_of}
use Rattle.dt_queue.proofs.FollowerMarks.{once_of_marks, row_next, rows_next, writes_next}
use Rattle.dt_queue.proofs.NextCells.{next_of_this}
use Rattle.dt_queue.proofs.Listings.{once_between}
use Rattle.dt_queue.proofs.kept.Kept.next.Goals as goal

pub granule_of-granule-requires : goal.granule_of-granule-requires
granule_of-granule-requires c = let k = c.args.self.now in
    omega (arith, c.requires.kept.known c.requires.there.0 c.args.cell.now c.requires.there.1, c.requires.kept.linked.each_row, length-map k.rows.table.items (λ (r : Row). r.granule))

pub between-rows-requires : goal.between-rows-requires
between-rows-requires c = c.requires.kept.listed.logged

pub of_read-requires : goal.of_read-requires
of_read-requires c = rw c.as_slice-table.ensures.value (c.requires.kept.lanes Write c.args.cell.now.row).numbered

pub of_write-requires : goal.of_write-requires
of_write-requires c = rw c.as_slice-table.ensures.value (c.requires.kept.lanes Write c.args.cell.now.row).numbered

pub returns-in-Read-clause-marks : goal.returns-in-Read-clause-marks
returns-in-Read-clause-marks c =
    let k = c.args.self.now in
    let x = c.args.cell.now in
    let o = c.first_between-whole.result in
    let within : k.next_number ≤ 18446744073709551615 = omega (arith, c.requires.kept.last) in
    let high = number_or o 18446744073709551615 in
    let first : IsFirstBetween x.number 18446744073709551615 (lane k Whole (granule_at (links k.rows) x.row)) o = rw c.granule_of-granule.ensures at c.first_between-whole.ensures in
    let writes = lane k Write x.row in
    let marks = option_to_list (first_in x.number high writes) in
    let told : marks_left c.of_read.result ≡ or_else_one marks o = rw (c.as_slice-table.ensures.value, c.number_or-high.ensures) at c.of_read.ensures.marks in
    subst (AreEachOnce (IsNextMark k x)) (sym told)
    (next_of_this k c.requires.kept x c.requires.there 18446744073709551615 within o first Read c.in-Read.is marks (writes_next writes x.number high (c.requires.kept.lanes Write x.row).numbered))

pub returns-in-Write-clause-marks : goal.returns-in-Write-clause-marks
returns-in-Write-clause-marks c =
    let k = c.args.self.now in
    let x = c.args.cell.now in
    let o = c.first_between-whole.result in
    let within : k.next_number ≤ 18446744073709551615 = omega (arith, c.requires.kept.last) in
    let high = number_or o 18446744073709551615 in
    let first : IsFirstBetween x.number 18446744073709551615 (lane k Whole (granule_at (links k.rows) x.row)) o = rw c.granule_of-granule.ensures at c.first_between-whole.ensures in
    let reads = lane k Read x.row in let writes = lane k Write x.row in
    let marks = next_of_row reads writes x.number high in
    let told : marks_left c.of_write.result ≡ or_else_one marks o = rw (c.as_slice-table.ensures.value, c.number_or-high.ensures) at c.of_write.ensures.marks in
    let row = row_of (lanes_read k.rows.table.items) (lanes_written k.rows.table.items) (apart_lanes k c.requires.kept) x.row in
    subst (AreEachOnce (IsNextMark k x)) (sym told)
    (next_of_this k c.requires.kept x c.requires.there 18446744073709551615 within o first Write c.in-Write.is marks
    (once_of_marks (IsNextInRow reads writes x.number high) marks (row_next reads writes x.number high row)))

pub returns-in-Whole-clause-marks : goal.returns-in-Whole-clause-marks
returns-in-Whole-clause-marks c =
    let k = c.args.self.now in
    let x = c.args.cell.now in
    let o = c.first_between-whole.result in
    let within : k.next_number ≤ 18446744073709551615 = omega (arith, c.requires.kept.last) in
    let high = number_or o 18446744073709551615 in
    let first : IsFirstBetween x.number 18446744073709551615 (lane k Whole (granule_at (links k.rows) x.row)) o = rw c.granule_of-granule.ensures at c.first_between-whole.ensures in
    let reads = lanes_read k.rows.table.items in let writes = lanes_written k.rows.table.items in
    let rows = rows_between k.listed (granule_at (links k.rows) x.row) x.number high in
    let same : listed_left c.between-rows.result ≡ rows = rw (c.granule_of-granule.ensures, c.number_or-high.ensures) at c.between-rows.ensures in
    let once : Distinct rows = once_between k.listed c.requires.kept.listed.logged (granule_at (links k.rows) x.row) x.number high in
    let marks = next_of_rows reads writes x.number high rows in
    let told : marks_left c.of_rows.result ≡ or_else_one marks o = rw (c.as_slice-table.ensures.value, c.number_or-high.ensures, same) at c.of_rows.ensures.marks in
    subst (AreEachOnce (IsNextMark k x)) (sym told)
    (next_of_this k c.requires.kept x c.requires.there 18446744073709551615 within o first Whole c.in-Whole.is marks
    (rows_next reads writes (apart_lanes k c.requires.kept) x.number high rows once))
