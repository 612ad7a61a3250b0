use Rattle.dt_gen.proofs.LoadTransactions.{loads_keep}
use Rattle.dt_gen.proofs.laws.load_keeps_total.Goals as goal

pub returns : goal.returns
returns c = loads_keep
