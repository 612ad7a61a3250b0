use Rattle.std.proofs.Common.{arith}
use Rattle.dt_report.proofs.printable.reply_is_printable.Goals as goal

pub returns : goal.returns
returns c = (c.bytes.ensures.name, omega (arith, c.has_32_bits.ensures), c.outcome_is_printable.ensures)
