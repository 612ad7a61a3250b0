use Rattle.std.proofs.Common.{◌≡◌, drop, map}
use Rattle.dt_access.specs.Clash.{clash}
use Rattle.dt_txn.specs.Transaction.{used_of}
use Rattle.dt_lock.proofs.clashes.clash.Given as goal

abbrev pub invariant-loop-entry : goal.invariant-loop-entry
invariant-loop-entry l = clash (map used_of (drop l.entry-index l.left)) (map used_of l.right) ≡ clash (map used_of l.left) (map used_of l.right)
