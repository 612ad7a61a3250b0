use Rattle.std.proofs.Common.{codes, arith}
use Rattle.dt_report.proofs.WordsAndLines.{value_put, values_put}
use Rattle.dt_report.proofs.words.put_done.Goals as goal

pub loop-value-preserved : goal.loop-value-preserved
loop-value-preserved c =
    value_put _ _ _ _ c.loop-value.value-index c.value-item.result (omega arith) c.value-item.is c.loop-value.invariant c.in_ok-put_value_word.ensures

pub returns : goal.returns
returns c =
    values_put _ (codes "done") _ _ _ c.loop-value.value-index (omega arith) c.in_ok-put_word.ensures c.loop-value.invariant
