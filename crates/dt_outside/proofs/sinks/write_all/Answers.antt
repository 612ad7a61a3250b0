use Rattle.std.proofs.Common.{arith}
use Rattle.std.proofs.lemmas.List.{take_rest}
use Rattle.dt_outside.proofs.TextPieces.{Adds-further}
use Rattle.dt_outside.proofs.sinks.write_all.Goals as goal

pub loop-written-preserved : goal.loop-written-preserved
loop-written-preserved g c = (
  omega (arith, c.in_ok-written.ensures.within),
  Adds-further _ _ _ _ _ _ c.loop-written.invariant.1 (rw take_rest at c.in_ok-written.ensures.added),
  omega (arith, c.in_ok-written.ensures.later),
)
