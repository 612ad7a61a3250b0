-- The arguments so far are those that the words so far say.
use Rattle.std.proofs.Common.{◌≡◌, map, take}
use Rattle.dt_lists.specs.Lists.{AllIn}
use Rattle.dt_text.specs.Values.{IsRowValue}
use Rattle.dt_workload.specs.Lines.{argument_word, said}
use Rattle.dt_workload.proofs.form.arguments.Given as goal

abbrev pub invariant-loop-word : goal.invariant-loop-word
invariant-loop-word l = AllIn IsRowValue l.args × (map (said l.line) (take l.word-index l.rest) ≡ map argument_word l.args)
