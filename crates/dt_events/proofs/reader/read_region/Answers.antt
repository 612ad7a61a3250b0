use Rattle.std.proofs.Common.{◌<◌, ◌^◌, arith}
use Rattle.dt_text.proofs.Callers.{narrower, ok_where}
use Rattle.dt_events.proofs.reader.read_region.Goals as goal

pub returns : goal.returns
returns c =
    let read = c.in_ok-read_u32.ensures in
    rw c.ok.ensures.value (narrower (2 ^ 8) c.args.word.now c.in_ok-read_u32.field-0 _ (omega arith) (omega (arith, read.0)) read.1 (ok_where _ (c.in_ok-read_u32.field-0 < 2 ^ 8) _ c.try_from.ensures))
