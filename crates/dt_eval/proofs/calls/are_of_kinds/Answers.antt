use Rattle.std.proofs.Common.{sym}
use Rattle.std.proofs.lemmas.Bool.{true≢false}
use Rattle.dt_lists.proofs.Callers.{pairwise_length}
use Rattle.dt_eval.specs.Meaning.{IsOfKind}
use Rattle.dt_eval.proofs.calls.are_of_kinds.Goals as goal

pub returns-then-kinds-values : goal.returns-then-kinds-values
returns-then-kinds-values c = (λ e. absurd (true≢false (sym e)), λ p. absurd (c.if-kinds-values.true (pairwise_length IsOfKind c.args.kinds.now c.args.values.now p)))
