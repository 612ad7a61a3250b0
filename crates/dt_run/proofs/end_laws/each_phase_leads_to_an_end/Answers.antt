use Rattle.dt_run.proofs.RunEnds.{ends_on}
use Rattle.dt_run.proofs.end_laws.each_phase_leads_to_an_end.Goals as goal

pub returns : goal.returns
returns c = λ before after n sound told phase ends later e. ends_on n sound told phase ends later e
