use Rattle.std.proofs.Common.{◌≡◌, map, take}
use Rattle.dt_txn.specs.Execution.{seen_of}
use Rattle.dt_txn.proofs.execution.see.Given as goal

abbrev pub invariant-loop-entry : goal.invariant-loop-entry
invariant-loop-entry l = l.seen ≡ map (seen_of l.table.state) (take l.entry-index l.entry-items)
