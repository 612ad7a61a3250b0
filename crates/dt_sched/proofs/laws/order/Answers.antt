use Rattle.dt_sched.proofs.Precedence.{precedes_transitive, comparable, edge_of_two, comparable_in_log}
use Rattle.dt_sched.proofs.laws.order.Goals as goal

pub returns-clause-transitive : goal.returns-clause-transitive
returns-clause-transitive c = precedes_transitive

pub returns-clause-comparable : goal.returns-clause-comparable
returns-clause-comparable c = comparable

pub returns-clause-edge_in_log : goal.returns-clause-edge_in_log
returns-clause-edge_in_log c = edge_of_two

pub returns-clause-comparable_in_log : goal.returns-clause-comparable_in_log
returns-clause-comparable_in_log c = comparable_in_log
