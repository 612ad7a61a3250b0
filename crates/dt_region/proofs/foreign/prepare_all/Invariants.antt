use Rattle.std.proofs.Common.{◌≡◌}
use Rattle.dt_region.proofs.foreign.prepare_all.Given as goal

abbrev pub invariant-loop-txn : goal.invariant-loop-txn
invariant-loop-txn l = l.kept ≡ l.fn.kept
