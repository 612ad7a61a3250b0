use Rattle.dt_sched.proofs.StableDecisions.{executable_stays, resolvable_stays}
use Rattle.dt_sched.proofs.laws.stability.Goals as goal

pub returns-clause-executable : goal.returns-clause-executable
returns-clause-executable c = λ short long l w resolved more done later wr wd t x n. executable_stays short long l w resolved more done later t wr wd n x

pub returns-clause-resolvable : goal.returns-clause-resolvable
returns-clause-resolvable c = λ short long l w resolved more done later closed wd ids x n. resolvable_stays short long l w resolved more done later ids closed wd n x
