use Rattle.std.proofs.Common.{◌≤◌, ◌-◌, vec_len}
use Rattle.dt_pool.proofs.many.links.Given as goal

abbrev pub invariant-loop-alloc : goal.invariant-loop-alloc
invariant-loop-alloc g l = vec_len l.links ≤ l.most

abbrev pub decreases-loop-alloc : goal.decreases-loop-alloc
decreases-loop-alloc g l = l.most - vec_len l.links
