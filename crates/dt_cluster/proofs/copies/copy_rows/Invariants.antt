-- The copies so far.
use Rattle.std.proofs.Common.{◌≡◌, take}
use Rattle.dt_cluster.proofs.copies.copy_rows.Given as goal

abbrev pub invariant-loop-key : goal.invariant-loop-key
invariant-loop-key l = l.copied.items ≡ take l.key-index l.rows
