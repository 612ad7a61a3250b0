use Rattle.std.proofs.Common.{Some, ap, sym, ◌∙◌}
use Rattle.std.proofs.lemmas.Result.{IfOk-weaker}
use Rattle.dt_workload.proofs.Forms.{no_form, form_answer}
use Rattle.dt_workload.proofs.form.read_form.Goals as goal

pub returns-in-Some : goal.returns-in-Some
returns-in-Some c =
    IfOk-weaker c.form_of_words.result _ _
    (λ answer h. form_answer c.args.line.now c.as_slice.result.now answer (sym c.in_ok-words.ensures.exact ∙ c.in-Some.is ∙ ap (λ w. Some w) (sym c.as_slice.ensures)) h)
    c.form_of_words.ensures

pub returns-in-None : goal.returns-in-None
returns-in-None c = no_form c.args.line.now (sym c.in_ok-words.ensures.exact ∙ c.in-None.is)
