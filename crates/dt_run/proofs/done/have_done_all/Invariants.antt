use Rattle.std.proofs.Common.{take}
use Rattle.dt_lists.specs.Lists.{AllIn}
use Rattle.dt_run.specs.EndOfRun.{HasDone}
use Rattle.dt_run.specs.SeatsInner.{SeatView}
use Rattle.dt_run.proofs.done.have_done_all.Given as goal

abbrev pub invariant-loop-source : goal.invariant-loop-source
invariant-loop-source g l = AllIn (λ (source : SeatView). AllIn (λ (s : SeatView). HasDone s.node source.node) l.seats) (take l.source-index l.seats)
