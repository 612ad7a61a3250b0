use Rattle.std.proofs.Common.{arith}
use Rattle.dt_proc.proofs.Rooms.{room_key}
use Rattle.dt_proc.proofs.keys.key.Goals as goal

pub returns-clause-room : goal.returns-clause-room
returns-clause-room c =
    room_key _ _ _ _ _ _ c.in_ok-add_key.ensures
    (omega (arith, c.named-place.ensures.shorter, c.after_one.ensures.shorter, c.in_ok-item.ensures.shorter, c.in_ok-rest.ensures.shorter))
