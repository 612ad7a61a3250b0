use Rattle.std.proofs.Common.{ap, ◌∙◌}
use Rattle.dt_workload.specs.Lines.{said}
use Rattle.dt_workload.proofs.Forms.{no_arguments, nothing_said}
use Rattle.dt_workload.proofs.form.arguments.Goals as goal

pub returns-in-None : goal.returns-in-None
returns-in-None c =
    no_arguments c.args.line.now c.args.rest.now c.loop-word.word-index c.word-item.result c.loop-word-test.true
    (λ arg is same. nothing_said _ _ c.in_ok-value.field-0 c.in-None.is c.in_ok-value.ensures arg is (ap (said c.args.line.now) c.word-item.is ∙ same))
