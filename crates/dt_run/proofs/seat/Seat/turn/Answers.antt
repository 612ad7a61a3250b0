use Rattle.dt_run.proofs.SeatTurns.{noted, of_ok}
use Rattle.dt_run.proofs.seat.Seat.turn.Goals as goal

pub returns : goal.returns
returns g c =
    let made = c.make_turn.ensures in
    let failed = c.is_err-failed.result in
    noted _ c.self.view_is failed made.once made.ins made.outs (of_ok c.make_turn.result failed c.is_err-failed.ensures.value made.whole)
