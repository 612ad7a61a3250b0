use Rattle.dt_sched.proofs.OneHome.{class_single, none_resolvable, closed_where_present, precedes_where_reaches, executable_by_edges}
use Rattle.dt_sched.proofs.laws.one_home_each.Goals as goal

pub returns-clause-single : goal.returns-clause-single
returns-clause-single c = class_single

pub returns-clause-unresolvable : goal.returns-clause-unresolvable
returns-clause-unresolvable c = none_resolvable

pub returns-clause-closed : goal.returns-clause-closed
returns-clause-closed c = closed_where_present

pub returns-clause-precedes : goal.returns-clause-precedes
returns-clause-precedes c = precedes_where_reaches

pub returns-clause-executable : goal.returns-clause-executable
returns-clause-executable c = λ view w one resolved done down t. executable_by_edges view w one resolved done t down
