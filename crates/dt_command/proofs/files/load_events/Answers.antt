use Rattle.std.proofs.Common.{arith, ap, length}
use Rattle.dt_command.proofs.LineCounts.{few_events}
use Rattle.dt_command.proofs.files.load_events.Goals as goal

pub returns-in-Ok-clause-few : goal.returns-in-Ok-clause-few
returns-in-Ok-clause-few g c =
    omega (arith, few_events c.as_slice.result.now c.in-Ok.events c.in-Ok.ensures.events, ap length c.as_slice.ensures.value, c.in_ok-bytes.ensures.short)
