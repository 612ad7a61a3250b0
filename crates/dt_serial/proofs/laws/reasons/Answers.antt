use Rattle.dt_serial.proofs.Causes.{reasons}
use Rattle.dt_serial.proofs.laws.reasons.Goals as goal

pub returns : goal.returns
returns c procs start txns unmoved = reasons procs start unmoved txns
