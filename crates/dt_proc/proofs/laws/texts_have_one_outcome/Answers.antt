use Rattle.dt_proc.proofs.OneOutcome.{one_outcome}
use Rattle.dt_proc.proofs.laws.texts_have_one_outcome.Goals as goal

pub returns : goal.returns
returns c = one_outcome
