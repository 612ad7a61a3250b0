use Rattle.dt_sched.proofs.Reach.{reach_decided}
use Rattle.dt_sched.proofs.Classes.{class_of, class_unique}
use Rattle.dt_sched.proofs.Decisions.{executable_decided, resolvable_decided}
use Rattle.dt_sched.proofs.laws.reach_is_decided.Goals as goal

pub returns-clause-reach : goal.returns-clause-reach
returns-clause-reach c = reach_decided

pub returns-clause-executable : goal.returns-clause-executable
returns-clause-executable c = executable_decided

pub returns-clause-resolvable : goal.returns-clause-resolvable
returns-clause-resolvable c = resolvable_decided

pub returns-clause-class : goal.returns-clause-class
returns-clause-class c = class_of

pub returns-clause-one_class : goal.returns-clause-one_class
returns-clause-one_class c = class_unique
