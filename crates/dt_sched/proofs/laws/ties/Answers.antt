use Rattle.dt_sched.specs.Ties.{Says}
use Rattle.dt_sched.proofs.ClosedTransactions.{preceders_agree_by}
use Rattle.dt_sched.proofs.Precedence.{transitive_by, comparable_by}
use Rattle.dt_sched.proofs.NothingToDo.{done_where_closed_by}
use Rattle.dt_sched.proofs.StableDecisions.{executable_stays_by}
use Rattle.dt_sched.proofs.Ranks.{sooner_breaks_ties}
use Rattle.dt_sched.proofs.laws.ties.Goals as goal

pub returns-clause-own : goal.returns-clause-own
returns-clause-own c = sooner_breaks_ties

pub returns-clause-transitive : goal.returns-clause-transitive
returns-clause-transitive c = λ test ties. transitive_by (Says test) ties

pub returns-clause-comparable : goal.returns-clause-comparable
returns-clause-comparable c = λ test ties. comparable_by (Says test) ties

pub returns-clause-same_preceders : goal.returns-clause-same_preceders
returns-clause-same_preceders c = λ test ties left right whole l r w. preceders_agree_by left right whole l r w (Says test) ties

pub returns-clause-stays_executable : goal.returns-clause-stays_executable
returns-clause-stays_executable c = λ test ties short long l w resolved more done later wr wd t x n. executable_stays_by (Says test) ties short long l w resolved more done later t wr wd n x

pub returns-clause-drained : goal.returns-clause-drained
returns-clause-drained c = λ test ties. done_where_closed_by (Says test) ties
