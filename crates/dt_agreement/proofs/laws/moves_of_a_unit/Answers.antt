use Rattle.dt_agreement.proofs.LegalWorlds.{legal_keeps}
use Rattle.dt_agreement.proofs.OneHistory.{legal_sees, moves_first, moves_in_order, moves_numbered, moves_own}
use Rattle.dt_agreement.proofs.RootedWorlds.{legal_roots}
use Rattle.dt_agreement.proofs.laws.moves_of_a_unit.Goals as goal

pub returns-clause-in_order : goal.returns-clause-in_order
returns-clause-in_order c cluster workload events run = moves_in_order (legal_keeps run) (legal_roots run)

pub returns-clause-numbered : goal.returns-clause-numbered
returns-clause-numbered c cluster workload events run = moves_numbered (legal_keeps run) (legal_roots run)

pub returns-clause-first : goal.returns-clause-first
returns-clause-first c cluster workload events run = moves_first (legal_keeps run) (legal_roots run)

pub returns-clause-own : goal.returns-clause-own
returns-clause-own c cluster workload events run = moves_own (legal_keeps run) (legal_roots run)

pub returns-clause-next : goal.returns-clause-next
returns-clause-next c cluster workload before region id after run = legal_sees before region id after run
