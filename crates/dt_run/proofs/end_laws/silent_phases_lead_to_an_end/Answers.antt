use Rattle.dt_run.proofs.QuietPhases.{done_now, done_with_nothing_out, exact_now, exact_or_put}
use Rattle.dt_run.proofs.end_laws.silent_phases_lead_to_an_end.Goals as goal

pub returns : goal.returns
returns c = λ before after n sound told phase ends silent. (
  record {
    one = exact_or_put n sound told phase ends silent;
    two = exact_now n sound told phase ends silent;
    done = done_now n sound told phase ends silent;
  },
  done_with_nothing_out n sound told phase ends silent,
)
