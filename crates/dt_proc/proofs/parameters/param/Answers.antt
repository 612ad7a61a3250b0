use Rattle.std.proofs.Common.{arith}
use Rattle.dt_proc.proofs.Rooms.{room_variable}
use Rattle.dt_proc.proofs.parameters.param.Goals as goal

pub returns-clause-room : goal.returns-clause-room
returns-clause-room c =
    room_variable _ _ _ _ _ _ c.in_ok-add_variable.ensures
    (omega (arith, c.named-place.ensures.shorter, c.after_one.ensures.shorter, c.kind-kind.ensures.shorter))
