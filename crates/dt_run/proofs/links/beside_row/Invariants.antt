use Rattle.dt_run.specs.LinksInner.{RowSoFar}
use Rattle.dt_run.proofs.links.beside_row.Given as goal

abbrev pub invariant-loop-link : goal.invariant-loop-link
invariant-loop-link g l = RowSoFar l.source l.link l.initial.row l.initial.seats l.row l.seats
