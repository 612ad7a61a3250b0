use Rattle.std.proofs.Common.{◌≡◌, ◌++◌, drop}
use Rattle.dt_txn.specs.Execution.{reads_of}
use Rattle.dt_txn.proofs.execution.reads.Given as goal

-- what was read so far and what is left are all reads
abbrev pub invariant-loop-place : goal.invariant-loop-place
invariant-loop-place l = l.reads.items ++ reads_of (drop l.place l.access) (drop l.place l.seen) ≡ reads_of l.access l.seen
