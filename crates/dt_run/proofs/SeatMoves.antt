-- A seat may go to another thread where its scheduler may.
use denote.RattleType.{RattleType}
use denote.Param.Send.{IsSend, sendable}
use Rattle.dt_sched.specs.declared.scheduler.Scheduler as Scheduler
use Rattle.dt_run.specs.contracts.seat.Seat as Seat
use Rattle.dt_run.proofs.seat.Seat.TheSendSync as seat_send

pub seat_moves : (S : RattleType) (g : Scheduler.Ghosts S.Denot) → IsSend S → IsSend (Seat.the_row S g)
seat_moves S g s = search (sendable, seat_send.the_send, s) depth 20
