use Rattle.std.proofs.Common.{◌+◌, ◌-◌, vec_len}
use Rattle.dt_queue.specs.LanesInner.{SameLanes}
use Rattle.dt_queue.proofs.lanes.push_mark.Given as goal

abbrev pub invariant-loop-lanes : goal.invariant-loop-lanes
invariant-loop-lanes l = SameLanes l.initial.lanes.items l.lanes.items

abbrev pub decreases-loop-lanes : goal.decreases-loop-lanes
decreases-loop-lanes l = l.place + 1 - vec_len l.lanes
