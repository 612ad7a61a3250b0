use Rattle.dt_gen.proofs.CountedAnswers.{each_reply}
use Rattle.dt_gen.proofs.laws.each_call_has_a_reply.Goals as goal

pub returns : goal.returns
returns c = each_reply
