use Rattle.std.proofs.Common.{FitsSigned, w64, arith}
use Rattle.std.proofs.lemmas.Int.{ints}
use Rattle.dt_gen.proofs.RowSums.{sum_more}
use Rattle.dt_gen.proofs.summaries.row_sum.Goals as goal

pub loop-row-preserved : goal.loop-row-preserved
loop-row-preserved c =
    let fits : FitsSigned w64 c.number_of.result = record { sfits = c.number_of.type_inv } in
    sum_more c.args.rows.now c.loop-row.row-index c.row-item.result _ c.number_of.result _ c.loop-row-test.true c.row-item.is fits c.number_of.ensures c.loop-row.invariant (omega (arith, ints))
