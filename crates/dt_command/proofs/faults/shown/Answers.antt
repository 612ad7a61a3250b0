use Rattle.std.proofs.Common.{rules}
use Rattle.dt_command.specs.Statuses.{visible_byte}
use Rattle.dt_command.proofs.FaultLines.{next_shown}
use Rattle.dt_command.proofs.faults.shown.Goals as goal

pub loop-place-preserved : goal.loop-place-preserved
loop-place-preserved c =
    (search rules, next_shown visible_byte c.loop-place.shown c.args.run.now c.loop-place.place _ _ (search rules) (search rules) c.loop-place.invariant.1 c.visible_byte.ensures)
