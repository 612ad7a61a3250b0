use Rattle.std.proofs.Common.{take}
use Rattle.dt_lists.specs.Lists.{AllIn}
use Rattle.dt_session.specs.Sessions.{EachNameIsAnswered}
use Rattle.dt_run.specs.SeatsInner.{SeatView}
use Rattle.dt_run.proofs.done.are_answered.Given as goal

abbrev pub invariant-loop-seat : goal.invariant-loop-seat
invariant-loop-seat g l = AllIn (λ (s : SeatView). EachNameIsAnswered s.node.sessions) (take l.seat-index l.seats)
