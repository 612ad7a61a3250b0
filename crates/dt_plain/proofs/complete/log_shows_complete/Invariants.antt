use Rattle.std.proofs.Common.{◌↔◌, drop}
use Rattle.dt_lists.specs.Lists.{AnyIn}
use Rattle.dt_plain.specs.SurroundingsInner.{ShowsComplete}
use Rattle.dt_plain.proofs.complete.log_shows_complete.Given as goal

abbrev pub invariant-loop-part : goal.invariant-loop-part
invariant-loop-part l = AnyIn (ShowsComplete l.logs l.id) (drop l.part-index l.log) ↔ AnyIn (ShowsComplete l.logs l.id) l.log
