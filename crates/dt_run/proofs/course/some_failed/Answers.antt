use Rattle.std.proofs.Common.{◌≡◌, false, subst}
use Rattle.dt_run.specs.SeatsInner.{SeatView}
use Rattle.dt_run.proofs.EachItem.{all_next}
use Rattle.dt_run.proofs.course.some_failed.Goals as goal

pub loop-seat-preserved : goal.loop-seat-preserved
loop-seat-preserved g c =
    all_next (λ (s : SeatView). s.failed ≡ false) c.args.seats.now c.loop-seat.seat-index c.seat-item.result c.seat-item.is c.loop-seat-test.true c.loop-seat.invariant
    (subst (λ (s : SeatView). s.failed ≡ false) c.seat.view_is c.if-seat.false)
