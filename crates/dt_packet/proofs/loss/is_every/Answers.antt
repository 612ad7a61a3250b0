use Rattle.std.proofs.Common.{arith}
use Rattle.dt_packet.proofs.Divisors.{told_by_rest}
use Rattle.dt_packet.proofs.loss.is_every.Goals as goal

pub returns-then-step-gt0 : goal.returns-then-step-gt0
returns-then-step-gt0 c = told_by_rest c.args.step c.args.number c.from.result (grind arith) (grind arith)
