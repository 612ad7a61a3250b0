use Rattle.std.proofs.Common.{arith, refl, subst, sym}
use Rattle.std.proofs.lemmas.Result.{IfOk-weaker}
use Rattle.std.proofs.lemmas.List.{length-map}
use Rattle.dt_access.specs.declared.access.Mode.TheVariants.{Whole}
use Rattle.dt_queue.specs.declared.row.Row.{Row}
use Rattle.dt_queue.specs.KeptInner.{IsNearInMode, IsNearMark, lane}
use Rattle.dt_queue.specs.LanesInner.{AreMarks, IsLastBetween, number_or}
use Rattle.dt_queue.specs.RowsInner.{granule_at, links}
use Rattle.dt_queue.proofs.LanesOfCells.{empty_of, some_of}
use Rattle.dt_queue.proofs.NearCells.{near_marks, near_taker, taken_low}
use Rattle.dt_queue.proofs.kept.Kept.near.Goals as goal

pub granule_of-granule-requires : goal.granule_of-granule-requires
granule_of-granule-requires c = let k = c.args.self.now in omega (arith, c.requires.row_in, c.requires.kept.linked.each_row, length-map k.rows.table.items (λ (r : Row). r.granule))

pub near_in_rows-requires-clause-taken : goal.near_in_rows-requires-clause-taken
near_in_rows-requires-clause-taken c =
    let k = c.args.self.now in
    let x = c.args.cell.now in
    let o = c.last_between-whole.result in
    let last : IsLastBetween 0 x.number (lane k Whole (granule_at (links k.rows) x.row)) o = rw c.granule_of-granule.ensures at c.last_between-whole.ensures in
    rw c.number_or.ensures (taken_low k (granule_at (links k.rows) x.row) x.number o last)

pub returns-then-is_empty : goal.returns-then-is_empty
returns-then-is_empty c =
    let k = c.args.self.now in
    let x = c.args.cell.now in
    let o = c.last_between-whole.result in
    let last : IsLastBetween 0 x.number (lane k Whole (granule_at (links k.rows) x.row)) o = rw c.granule_of-granule.ensures at c.last_between-whole.ensures in
    let none = empty_of c.in_ok-marks.marks.items _ c.is_empty.result refl c.is_empty.ensures c.if-is_empty.true in
    let marks = subst (AreMarks (IsNearInMode k x (number_or o 0))) none (rw c.number_or.ensures at c.in_ok-marks.ensures) in
    IfOk-weaker c.only.result _ _ (λ found e. subst (AreMarks (IsNearMark k x)) (sym e) (near_taker k c.requires.kept x o last marks)) c.only.ensures

pub returns : goal.returns
returns c =
    let k = c.args.self.now in
    let x = c.args.cell.now in
    let o = c.last_between-whole.result in
    let last : IsLastBetween 0 x.number (lane k Whole (granule_at (links k.rows) x.row)) o = rw c.granule_of-granule.ensures at c.last_between-whole.ensures in
    let some = some_of c.in_ok-marks.marks.items _ c.is_empty.result refl c.is_empty.ensures c.if-is_empty.false in
    let marks : AreMarks (IsNearInMode k x (number_or o 0)) c.in_ok-marks.marks.items = rw c.number_or.ensures at c.in_ok-marks.ensures in
    near_marks k c.requires.kept x o last c.in_ok-marks.marks.items some.0 some.1 marks
