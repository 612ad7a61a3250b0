use Rattle.dt_class.proofs.Follow.{IsFollowedPast, bound}
use Rattle.dt_class.proofs.search.follow.Given as goal

abbrev pub invariant-loop-at : goal.invariant-loop-at
invariant-loop-at l = IsFollowedPast l.way l.links l.vertex l.initial.found l.found l.at

abbrev pub decreases-loop-at : goal.decreases-loop-at
decreases-loop-at l = bound l.at
