use Rattle.std.specs.Io.KnownBytes.{Keeps}
use Rattle.dt_outside.proofs.std_sink.write_retrying.Given as goal

-- an interrupted call takes nothing
abbrev pub invariant-loop : goal.invariant-loop
invariant-loop g l = Keeps (g.W.Write.contents l.fn.writer) (g.W.Write.contents l.writer)
