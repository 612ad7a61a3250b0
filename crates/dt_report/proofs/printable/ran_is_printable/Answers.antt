use Rattle.std.proofs.Common.{arith}
use Rattle.dt_report.proofs.printable.ran_is_printable.Goals as goal

pub returns : goal.returns
returns c =
    let id = c.id_is_small.ensures in
    ((omega (arith, id.0), omega (arith, id.1)), c.bytes.ensures.name, omega (arith, c.has_32_bits.ensures), omega (arith, c.has_32_bits-2.ensures), c.outcome_is_printable.ensures)
