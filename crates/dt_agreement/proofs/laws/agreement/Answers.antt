use Rattle.dt_agreement.proofs.AllAgree.{legal_agree}
use Rattle.dt_agreement.proofs.laws.agreement.Goals as goal

pub returns : goal.returns
returns c cluster workload events run = legal_agree run
