use Rattle.std.proofs.Common.{arith}
use Rattle.dt_text.proofs.Numerals.{narrower, ok_where}
use Rattle.dt_text.proofs.numbers.read_u32.Goals as goal

pub returns : goal.returns
returns c =
    let read = c.in_ok-read_u64.ensures in
    rw c.ok.ensures.value (narrower _ _ _ _ (omega arith) read.0 read.1 (ok_where _ _ _ c.try_from.ensures))
