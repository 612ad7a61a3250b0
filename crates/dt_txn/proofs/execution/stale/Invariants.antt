use Rattle.std.proofs.Common.{◌≡◌, drop}
use Rattle.dt_txn.specs.Execution.{stale_of}
use Rattle.dt_txn.proofs.execution.stale.Given as goal

-- what is left gives what all gives
abbrev pub invariant-loop-place : goal.invariant-loop-place
invariant-loop-place l = stale_of (drop l.place l.access) (drop l.place l.seen) ≡ stale_of l.access l.seen
