use Rattle.std.proofs.Common.{◌≡◌, drop, map}
use Rattle.std.specs.List.{list_any}
use Rattle.dt_access.specs.Clash.{uses_clash}
use Rattle.dt_txn.specs.Transaction.{used_of}
use Rattle.dt_lock.proofs.clashes.clashes_with_some.Given as goal

abbrev pub invariant-loop-other : goal.invariant-loop-other
invariant-loop-other l = list_any (uses_clash (used_of l.entry)) (map used_of (drop l.other-index l.others)) ≡ list_any (uses_clash (used_of l.entry)) (map used_of l.others)
