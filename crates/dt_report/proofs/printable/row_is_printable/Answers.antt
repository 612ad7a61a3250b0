use Rattle.std.proofs.Common.{arith}
use Rattle.dt_report.proofs.printable.row_is_printable.Goals as goal

pub returns : goal.returns
returns c = (c.bytes.ensures.key, c.value_may_be_printed.ensures, omega (arith, c.has_8_bits.ensures), omega (arith, c.has_32_bits.ensures))
