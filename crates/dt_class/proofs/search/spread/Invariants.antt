use Rattle.std.proofs.Common.{◌-◌, length}
use Rattle.dt_class.proofs.Walk.{IsWalked}
use Rattle.dt_class.proofs.search.spread.Given as goal

abbrev pub invariant-loop-vertex : goal.invariant-loop-vertex
invariant-loop-vertex l = IsWalked l.way l.links l.initial.found l.found l.place

abbrev pub decreases-loop-vertex : goal.decreases-loop-vertex
decreases-loop-vertex l = length l.newest - l.place
