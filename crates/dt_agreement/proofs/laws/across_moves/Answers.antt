use Rattle.dt_agreement.proofs.AcrossMoves.{legal_across, legal_fewer}
use Rattle.dt_agreement.proofs.laws.across_moves.Goals as goal

pub returns-clause-ordered : goal.returns-clause-ordered
returns-clause-ordered c cluster workload events run = legal_across run

pub returns-clause-fewer : goal.returns-clause-fewer
returns-clause-fewer c cluster workload events run = legal_fewer run
