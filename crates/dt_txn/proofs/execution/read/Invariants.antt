use Rattle.std.proofs.Common.{◌≡◌, ◌++◌, drop, map}
use Rattle.dt_txn.specs.Execution.{reads_of, seen_of, stale_of}
use Rattle.dt_txn.proofs.execution.read.Given as goal

-- what is left gives the outcome Stale that all gives, and what was read so far and what is left are all reads
abbrev pub invariant-loop-entry : goal.invariant-loop-entry
invariant-loop-entry l =
    let seen = map (seen_of l.table.state) in
    record {
      stale : stale_of (drop l.entry-index l.access) (seen (drop l.entry-index l.access)) ≡ stale_of l.access (seen l.access);
      left : l.reads.items ++ reads_of (drop l.entry-index l.access) (seen (drop l.entry-index l.access)) ≡ reads_of l.access (seen l.access);
    }
