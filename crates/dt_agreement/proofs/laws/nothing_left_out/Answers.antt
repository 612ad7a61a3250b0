use Rattle.dt_agreement.proofs.Reports.{executed_accounted, answer_accounted}
use Rattle.dt_agreement.proofs.laws.nothing_left_out.Goals as goal

pub returns-clause-executed : goal.returns-clause-executed
returns-clause-executed c cluster workload events run = executed_accounted run

pub returns-clause-answered : goal.returns-clause-answered
returns-clause-answered c cluster workload first region session last run = answer_accounted first region session last run
