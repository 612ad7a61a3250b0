use Rattle.dt_agreement.proofs.LegalWorlds.{legal_keeps}
use Rattle.dt_agreement.proofs.OneHistory.{are_one_history}
use Rattle.dt_agreement.proofs.RootedWorlds.{legal_roots}
use Rattle.dt_agreement.proofs.laws.one_history.Goals as goal

pub returns : goal.returns
returns c cluster workload events run = are_one_history (legal_keeps run) (legal_roots run)
