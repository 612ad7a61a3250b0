use Rattle.dt_agreement.proofs.AllAgree.{drained_done}
use Rattle.dt_agreement.proofs.LegalWorlds.{legal_keeps}
use Rattle.dt_agreement.proofs.RootedWorlds.{legal_roots}
use Rattle.dt_agreement.proofs.laws.drained_regions.Goals as goal

pub returns : goal.returns
returns c cluster workload events run region lr d = drained_done (legal_keeps run) (legal_roots run) region lr d
