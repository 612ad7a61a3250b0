use Rattle.std.proofs.Common.{◌≡◌, ◌≤◌, ◌++◌, length, map, drop}
use Rattle.dt_txn.specs.Transaction.{set_of, targets_of}
use Rattle.dt_txn.proofs.placement.homes.Given as goal

-- the homes so far are those of the entries from `place` on
abbrev pub invariant-loop-place : goal.invariant-loop-place
invariant-loop-place l = record {
  within : l.place ≤ length l.access;
  so_far : l.homes.items ≡ set_of (map (λ a. a.home) (drop l.place l.access) ++ targets_of l.txn.body);
}

abbrev pub decreases-loop-place : goal.decreases-loop-place
decreases-loop-place l = l.place
