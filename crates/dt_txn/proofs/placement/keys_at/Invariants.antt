use Rattle.std.proofs.Common.{◌≡◌, ◌++◌, map, drop}
use Rattle.dt_txn.specs.Transaction.{entries_at, used_of}
use Rattle.dt_txn.proofs.placement.keys_at.Given as goal

-- the keys so far and those of the entries that are left are those of all entries
abbrev pub invariant-loop-entry : goal.invariant-loop-entry
invariant-loop-entry l =
    l.keys ++ map used_of (entries_at l.body l.home (drop l.entry-index l.access))
    ≡ map used_of (entries_at l.body l.home l.access)
