use Rattle.std.proofs.Common.{◌≤◌, arith, refl}
use Rattle.std.proofs.lemmas.Result.{on_ok_weaker}
use Rattle.std.proofs.lemmas.List.{length-map}
use Rattle.dt_queue.specs.declared.kept.Kept.{Kept}
use Rattle.dt_queue.specs.declared.row.Row.{Row}
use Rattle.dt_queue.proofs.LanesOfCells.{kept_listed}
use Rattle.dt_queue.proofs.RowsUsed.{last_of_takers, listed_or_not}
use Rattle.dt_queue.proofs.kept.Kept.enter.Goals as goal

pub granule_of-granule-requires : goal.granule_of-granule-requires
granule_of-granule-requires c = let k = c.args.self.now in omega (arith, c.requires.row_in, c.requires.kept.linked.each_row, length-map k.rows.table.items (λ (r : Row). r.granule))

pub returns-in-Read : goal.returns-in-Read
returns-in-Read c =
    let k : Kept = c.args.self.now in
    let g = c.granule_of-granule.result in
    let within : k.next_number ≤ 18446744073709551615 = omega (arith, c.requires.kept.last) in
    let whole = last_of_takers k c.requires.kept g 18446744073709551615 c.last_between-whole.result within c.last_between-whole.ensures in
    let r = listed_or_not c.add.result k c.requires.kept c.args.row g _ c.add.new.self c.requires.row_in c.granule_of-granule.ensures
    whole.0 whole.1 (rw c.number_or.ensures at c.add.ensures.added) c.add.ensures.same in
    record {
      kept = kept_listed k c.add.new.self c.requires.kept r.0;
      entered = on_ok_weaker c.add.result (λ e part. e) r.1;
      same = refl;
    }
