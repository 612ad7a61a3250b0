use Rattle.std.proofs.Common.{arith}
use Rattle.std.proofs.lemmas.List.{length-map}
use Rattle.dt_queue.specs.declared.row.Row.{Row}
use Rattle.dt_queue.proofs.CellUses.{apart_lanes}
use Rattle.dt_queue.proofs.Listings.{once_between}
use Rattle.dt_access.specs.declared.access.Mode.TheVariants.{Write}
use Rattle.dt_queue.proofs.kept.Kept.near_in_rows.Goals as goal

pub granule_of-granule-requires : goal.granule_of-granule-requires
granule_of-granule-requires c = let k = c.args.self.now in omega (arith, c.requires.row_in, c.requires.kept.linked.each_row, length-map k.rows.table.items (λ (r : Row). r.granule))

pub between-rows-requires : goal.between-rows-requires
between-rows-requires c = c.requires.kept.listed.logged

pub near_write-requires : goal.near_write-requires
near_write-requires c = rw c.as_slice-table.ensures.value (c.requires.kept.lanes Write c.args.cell.now.row).numbered

pub near_row-requires : goal.near_row-requires
near_row-requires c = rw c.as_slice-table.ensures.value (apart_lanes c.args.self.now c.requires.kept)

pub near_rows-requires : goal.near_rows-requires
near_rows-requires c = record {
  apart = rw c.as_slice-table.ensures.value (apart_lanes c.args.self.now c.requires.kept);
  once = rw c.between-rows.ensures (once_between c.args.self.now.listed c.requires.kept.listed.logged c.granule_of-granule.result c.args.low c.args.cell.now.number);
}

pub returns-in-Read : goal.returns-in-Read
returns-in-Read c = rw c.in-Read.is (rw c.as_slice-table.ensures.value at c.near_write.ensures)

pub returns-in-Write : goal.returns-in-Write
returns-in-Write c = rw c.in-Write.is (rw c.as_slice-table.ensures.value at c.near_row.ensures)

pub returns-in-Whole : goal.returns-in-Whole
returns-in-Whole c = rw c.in-Whole.is (rw (c.as_slice-table.ensures.value, c.between-rows.ensures, c.granule_of-granule.ensures) at c.near_rows.ensures)
