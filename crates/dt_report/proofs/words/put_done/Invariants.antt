-- What is still to be appended of the values makes the text whole.
use Rattle.std.proofs.Common.{◌≡◌, ◌++◌, drop, map}
use Rattle.dt_report.specs.Report.{value_word}
use Rattle.dt_text.specs.Words.{spaced}
use Rattle.dt_report.proofs.words.put_done.Given as goal

abbrev pub invariant-loop-value : goal.invariant-loop-value
invariant-loop-value l =
    l.out.items ++ spaced (map value_word (drop l.value-index l.values)) ≡ l.initial.out.items ++ spaced (map value_word l.values)
