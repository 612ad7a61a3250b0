use Rattle.dt_gen.proofs.LoadWorlds.{each_report}
use Rattle.dt_gen.proofs.laws.each_report_shows_the_total.Goals as goal

pub returns : goal.returns
returns c = each_report
