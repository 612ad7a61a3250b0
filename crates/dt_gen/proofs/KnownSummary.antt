-- What is reported of a finished run of the load: as many answers as calls, and the sum that the accounts had at first.
use Rattle.std.proofs.Common.{ap₂, arith}
use Rattle.dt_gen.specs.Summary.{summary_text}
use Rattle.dt_gen.specs.Laws.{EachSummaryIsKnown}
use Rattle.dt_gen.proofs.CountedAnswers.{each_answered}
use Rattle.dt_gen.proofs.LoadWorlds.{each_report}

pub each_summary : EachSummaryIsKnown
each_summary calls events few legal finished = ap₂ (summary_text calls) (each_answered calls events few legal finished) (each_report calls events 0 few legal (omega arith))
