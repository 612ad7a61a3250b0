use Rattle.std.proofs.Common.{arith}
use Rattle.dt_queue.proofs.NewNumbers.{first_found}
use Rattle.dt_queue.proofs.kept.Kept.first_from.Goals as goal

pub returns : goal.returns
returns c =
    first_found c.args.self.now c.args.number c.loop-slot.slot c.loop-slot.limit c.loop-slot.first c.requires (omega (arith, c.capacity-slot-end.ensures.slots, c.loop-slot-test.false)) c.loop-slot.invariant
