use Rattle.std.proofs.Common.{take}
use Rattle.dt_plain.specs.SurroundingsInner.{ArePresent}
use Rattle.dt_plain.proofs.graph.present.Given as goal

abbrev pub invariant-loop-log : goal.invariant-loop-log
invariant-loop-log l = ArePresent (take l.log-index l.logs) l.ids
