use Rattle.dt_merge.proofs.Bound.{weight_bounded, events_few}
use Rattle.dt_merge.proofs.EventLimit.{most_few}
use Rattle.dt_merge.proofs.WeightRises.{events_weighed, rises}
use Rattle.dt_merge.proofs.laws.weights.Goals as goal

pub returns-clause-rises : goal.returns-clause-rises
returns-clause-rises c cluster workload ok w event good legal = rises cluster ok workload w event good legal

pub returns-clause-weighed : goal.returns-clause-weighed
returns-clause-weighed c cluster workload ok fits w events good legal changing = events_weighed cluster ok workload fits w events good legal changing

pub returns-clause-bounded : goal.returns-clause-bounded
returns-clause-bounded c cluster workload ok w good = weight_bounded ok good

pub returns-clause-few : goal.returns-clause-few
returns-clause-few c cluster workload ok fits w events good legal changing = events_few cluster ok workload fits w events good legal changing

pub returns-clause-number : goal.returns-clause-number
returns-clause-number c cluster workload ok fits = most_few cluster ok workload fits
