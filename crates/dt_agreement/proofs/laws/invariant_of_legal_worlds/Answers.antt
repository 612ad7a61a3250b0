use Rattle.dt_agreement.proofs.LegalWorlds.{legal_keeps}
use Rattle.dt_agreement.proofs.RootedWorlds.{legal_roots}
use Rattle.dt_agreement.proofs.laws.invariant_of_legal_worlds.Goals as goal

pub returns-clause-kept : goal.returns-clause-kept
returns-clause-kept c cluster workload events run = legal_keeps run

pub returns-clause-rooted : goal.returns-clause-rooted
returns-clause-rooted c cluster workload events run = legal_roots run
