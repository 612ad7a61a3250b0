use Rattle.std.proofs.Common.{length}
use Rattle.dt_class.proofs.Walk.{IsBegun}
use Rattle.dt_class.proofs.search.reached.Given as goal

abbrev pub invariant-loop-start : goal.invariant-loop-start
invariant-loop-start l = IsBegun (length l.newest) l.starts l.start-index l.found
