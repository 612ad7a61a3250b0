use Rattle.dt_run.specs.LinksInner.{LinkedSoFar}
use Rattle.dt_run.proofs.links.link_all.Given as goal

abbrev pub invariant-loop-region : goal.invariant-loop-region
invariant-loop-region g l = LinkedSoFar l.region 0 l.fn.seats l.seats

abbrev pub invariant-loop-other : goal.invariant-loop-other
invariant-loop-other g l = LinkedSoFar l.region l.other l.fn.seats l.seats
