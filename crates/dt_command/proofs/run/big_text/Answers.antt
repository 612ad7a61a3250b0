use Rattle.dt_command.proofs.Runs.{big_told}
use Rattle.dt_command.proofs.run.big_text.Goals as goal

pub returns : goal.returns
returns g c = big_told c.args.calls c.requires.few c.in_ok-cluster.ensures.cluster c.in_ok-cluster.ensures.workload c.summary_of_run.result c.summary_of_run.ensures
