use Rattle.std.proofs.Common.{◌≡◌, false, take}
use Rattle.dt_lists.specs.Lists.{AllIn}
use Rattle.dt_run.specs.SeatsInner.{SeatView}
use Rattle.dt_run.proofs.course.some_failed.Given as goal

abbrev pub invariant-loop-seat : goal.invariant-loop-seat
invariant-loop-seat g l = AllIn (λ (s : SeatView). s.failed ≡ false) (take l.seat-index l.seats)
