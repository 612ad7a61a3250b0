use Rattle.std.proofs.Common.{arith}
use Rattle.dt_report.proofs.printable.outcome_is_printable.Goals as goal

pub returns-in-Stale : goal.returns-in-Stale
returns-in-Stale c =
    let id = c.id_is_small.ensures in
    rw (c.in-Stale.is, ← c.get.ensures) (c.bytes.ensures.key, omega (arith, c.has_32_bits.ensures), (omega (arith, id.0), omega (arith, id.1)))
