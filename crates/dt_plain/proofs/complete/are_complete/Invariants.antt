use Rattle.std.proofs.Common.{◌↔◌, drop}
use Rattle.dt_lists.specs.Lists.{AllIn}
use Rattle.dt_sched.specs.Views.{IsComplete}
use Rattle.dt_plain.proofs.complete.are_complete.Given as goal

abbrev pub invariant-loop-id : goal.invariant-loop-id
invariant-loop-id l = AllIn (IsComplete l.logs) (drop l.id-index l.ids) ↔ AllIn (IsComplete l.logs) l.ids
