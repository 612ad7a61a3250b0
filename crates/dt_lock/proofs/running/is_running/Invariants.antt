use Rattle.std.proofs.Common.{◌↔◌, drop}
use Rattle.dt_lists.specs.Lists.{Has}
use Rattle.dt_lock.proofs.running.is_running.Given as goal

abbrev pub invariant-loop-one : goal.invariant-loop-one
invariant-loop-one l = Has (drop l.one-index l.running) (record { id = l.id; seen = l.seen }) ↔ Has l.running (record { id = l.id; seen = l.seen })
