use Rattle.dt_waits.proofs.LeftTransactions.{executable_left, left_chain, out_stays, resolvable_left}
use Rattle.dt_waits.proofs.laws.left_is_enough.Goals as goal

pub returns-clause-left_chain : goal.returns-clause-left_chain
returns-clause-left_chain c = λ view done u t l r. left_chain view done l r

pub returns-clause-out_stays : goal.returns-clause-out_stays
returns-clause-out_stays c = out_stays

pub returns-clause-executable_left : goal.returns-clause-executable_left
returns-clause-executable_left c = executable_left

pub returns-clause-resolvable_left : goal.returns-clause-resolvable_left
returns-clause-resolvable_left c = resolvable_left
