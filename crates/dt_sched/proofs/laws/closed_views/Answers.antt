use Rattle.dt_sched.proofs.ClosedTransactions.{stands_alike, class_agrees, preceders_agree}
use Rattle.dt_sched.proofs.laws.closed_views.Goals as goal

pub returns-clause-longer : goal.returns-clause-longer
returns-clause-longer c = stands_alike

pub returns-clause-same_class : goal.returns-clause-same_class
returns-clause-same_class c = class_agrees

pub returns-clause-same_preceders : goal.returns-clause-same_preceders
returns-clause-same_preceders c = preceders_agree
