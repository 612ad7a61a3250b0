use Rattle.std.proofs.Common.{◌≤◌, arith}
use Rattle.dt_queue.specs.declared.kept.Kept.{Kept}
use Rattle.dt_queue.proofs.LanesOfCells.{kept_listed}
use Rattle.dt_queue.proofs.RowsUsed.{first_of_takers, listed_tidied}
use Rattle.dt_queue.proofs.kept.Kept.tidy.Goals as goal

pub returns-then-is_none-clause-kept : goal.returns-then-is_none-clause-kept
returns-then-is_none-clause-kept c =
    let k : Kept = c.args.self.now in
    let within : k.next_number ≤ 18446744073709551615 = omega (arith, c.requires.last) in
    kept_listed k c.tidy.new.self c.requires
    (listed_tidied k c.args.granule _ c.tidy.new.self c.requires.listed (first_of_takers k c.requires c.args.granule 18446744073709551615 c.first_between-first.result within c.first_between-first.ensures)
    (rw (c.as_slice-table.ensures.value, c.number_or.ensures) at c.tidy.ensures))
