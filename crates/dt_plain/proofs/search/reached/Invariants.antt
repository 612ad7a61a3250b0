use Rattle.std.proofs.Common.{◌+◌, ◌-◌, length}
use Rattle.dt_plain.proofs.Walk.{IsWalked}
use Rattle.dt_plain.proofs.search.reached.Given as goal

abbrev pub invariant-loop-at : goal.invariant-loop-at
invariant-loop-at l = IsWalked l.links l.fn.start l.found l.at

abbrev pub decreases-loop-at : goal.decreases-loop-at
decreases-loop-at l = length l.links + 1 - l.at
