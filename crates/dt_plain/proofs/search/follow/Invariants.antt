use Rattle.std.proofs.Common.{take}
use Rattle.dt_plain.specs.LinksInner.{Follows}
use Rattle.dt_plain.proofs.search.follow.Given as goal

abbrev pub invariant-loop-link : goal.invariant-loop-link
invariant-loop-link l = Follows (take l.link-index l.links) l.from l.initial.found l.found
