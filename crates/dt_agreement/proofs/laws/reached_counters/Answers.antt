use Rattle.dt_agreement.proofs.OneHistory.{counters_same, counters_were}
use Rattle.dt_agreement.proofs.laws.reached_counters.Goals as goal

pub returns-clause-reached : goal.returns-clause-reached
returns-clause-reached c cluster workload events run region id x legal found = counters_were run legal x found

pub returns-clause-exact : goal.returns-clause-exact
returns-clause-exact c cluster workload events run region id x legal found = counters_same run legal x found
