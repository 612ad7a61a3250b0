use Rattle.dt_sched.proofs.NothingToDo.{done_where_closed}
use Rattle.dt_sched.proofs.laws.drained.Goals as goal

pub returns : goal.returns
returns c = done_where_closed
