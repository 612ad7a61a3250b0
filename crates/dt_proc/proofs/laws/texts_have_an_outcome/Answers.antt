use Rattle.dt_proc.proofs.EveryOutcome.{every_text}
use Rattle.dt_proc.proofs.laws.texts_have_an_outcome.Goals as goal

pub returns : goal.returns
returns c = every_text
