use Rattle.dt_gen.proofs.CountedAnswers.{each_answered}
use Rattle.dt_gen.proofs.laws.each_call_is_answered_once.Goals as goal

pub returns : goal.returns
returns c = each_answered
