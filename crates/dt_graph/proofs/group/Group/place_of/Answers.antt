use Rattle.std.proofs.Common.{nat_eq}
use Rattle.dt_lists.proofs.Callers.{found_at, missed, tells_number}
use Rattle.dt_graph.proofs.group.Group.place_of.Goals as goal

pub returns-in_err-place : goal.returns-in_err-place
returns-in_err-place c = rw (c.from_residual.ensures, ← c.self.view_is) (missed nat_eq tells_number c.args.vertex c.self.inside.vertices.keys c.in_err-place.ensures.index)

pub returns : goal.returns
returns c = rw (← c.self.view_is) (found_at nat_eq tells_number c.args.vertex c.self.inside.vertices.keys c.in_ok-place.place c.in_ok-place.ensures.index)
