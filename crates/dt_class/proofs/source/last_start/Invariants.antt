use Rattle.std.proofs.Common.{length}
use Rattle.dt_class.proofs.Scan.{IsScanned}
use Rattle.dt_class.proofs.source.last_start.Given as goal

abbrev pub invariant-loop-vertex : goal.invariant-loop-vertex
invariant-loop-vertex l = IsScanned l.way l.links (length l.newest) l.initial.found.order l.vertex l.found l.last
