use Rattle.dt_run.proofs.WaitingPackets.{waiting_true}
use Rattle.dt_run.proofs.end_laws.what_waits_is_true.Goals as goal

pub returns : goal.returns
returns c = λ v n sound source target ls lt apart. waiting_true n sound source target ls lt apart
