use Rattle.dt_gen.proofs.ShownTotals.{shown_sum}
use Rattle.dt_gen.proofs.laws.shown_sum_is_total.Goals as goal

pub returns : goal.returns
returns c = shown_sum
