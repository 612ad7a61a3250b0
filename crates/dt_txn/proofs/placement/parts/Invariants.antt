use Rattle.std.proofs.Common.{◌≡◌, map, take}
use Rattle.dt_txn.specs.Transaction.{part_of}
use Rattle.dt_txn.proofs.placement.parts.Given as goal

abbrev pub invariant-loop-home : goal.invariant-loop-home
invariant-loop-home l = l.parts.items ≡ map (part_of l.txn) (take l.home-index l.home-items)
