-- The sum so far.
use Rattle.dt_gen.proofs.RowSums.{IsSumOf}
use Rattle.dt_gen.proofs.summaries.row_sum.Given as goal

abbrev pub invariant-loop-row : goal.invariant-loop-row
invariant-loop-row l = IsSumOf l.rows l.row-index l.sum
