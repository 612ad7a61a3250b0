use Rattle.dt_run.proofs.DoneForGood.{stays_done}
use Rattle.dt_run.proofs.end_laws.what_is_done_stays_done.Goals as goal

pub returns : goal.returns
returns c = λ before after n told phase d. stays_done n told phase d
