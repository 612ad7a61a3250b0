use Rattle.dt_events.proofs.EveryFile.{one_list}
use Rattle.dt_events.proofs.laws.files_are_one_list.Goals as goal

pub returns : goal.returns
returns c = one_list
