use Rattle.std.proofs.Common.{◌↔◌, drop}
use Rattle.dt_lists.specs.Lists.{AnyIn}
use Rattle.dt_plain.specs.SurroundingsInner.{ShowsComplete}
use Rattle.dt_plain.proofs.complete.is_complete.Given as goal

abbrev pub invariant-loop-log : goal.invariant-loop-log
invariant-loop-log l = AnyIn (AnyIn (ShowsComplete l.logs l.id)) (drop l.log-index l.logs) ↔ AnyIn (AnyIn (ShowsComplete l.logs l.id)) l.logs
