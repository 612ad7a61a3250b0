use Rattle.std.proofs.Common.{sym, ◌∙◌}
use Rattle.std.proofs.lemmas.Bool.{false≢true}
use Rattle.dt_run.proofs.done.all_done.Goals as goal

pub returns-then-are_answered : goal.returns-then-are_answered
returns-then-are_answered g c = (
  λ t. record { answered = c.are_answered.ensures.0 c.if-are_answered.true; executed = c.have_done_all.ensures.0 t },
  λ d. c.have_done_all.ensures.1 d.executed,
)

pub returns-else-are_answered : goal.returns-else-are_answered
returns-else-are_answered g c = (
  λ t. absurd (false≢true (sym c.if-are_answered.false ∙ t)),
  λ d. c.are_answered.ensures.1 d.answered,
)
