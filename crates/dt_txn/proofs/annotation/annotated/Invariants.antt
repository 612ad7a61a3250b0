use Rattle.std.proofs.Common.{◌≡◌, map, take}
use Rattle.dt_txn.specs.Transaction.{annotated}
use Rattle.dt_txn.proofs.annotation.annotated.Given as goal

abbrev pub invariant-loop-key : goal.invariant-loop-key
invariant-loop-key l = l.access ≡ map (annotated l.table.state) (take l.key-index l.key-items)
