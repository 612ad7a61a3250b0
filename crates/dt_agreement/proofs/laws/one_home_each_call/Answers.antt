use Rattle.dt_agreement.proofs.OneHome.{class_is_single, class_at_is_single, no_resolution, none_resolved}
use Rattle.dt_agreement.proofs.laws.one_home_each_call.Goals as goal

pub returns-clause-single : goal.returns-clause-single
returns-clause-single c cluster workload events run calls = class_is_single run calls

pub returns-clause-single_at : goal.returns-clause-single_at
returns-clause-single_at c cluster workload events run calls = class_at_is_single run calls

pub returns-clause-illegal : goal.returns-clause-illegal
returns-clause-illegal c cluster workload events run calls = no_resolution run calls

pub returns-clause-absent : goal.returns-clause-absent
returns-clause-absent c cluster workload events run calls = none_resolved run calls
