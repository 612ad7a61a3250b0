use Rattle.std.proofs.KnownBytes.{Keeps-trans}
use Rattle.dt_outside.proofs.std_sink.write_retrying.Goals as goal

pub returns-in_default-clause-taken : goal.returns-in_default-clause-taken
returns-in_default-clause-taken g c = Keeps-trans _ _ _ c.loop.invariant c.in-Err.ensures.bytes
