use Rattle.dt_gen.proofs.KnownSummary.{each_summary}
use Rattle.dt_gen.proofs.laws.each_summary_is_known.Goals as goal

pub returns : goal.returns
returns c = each_summary
