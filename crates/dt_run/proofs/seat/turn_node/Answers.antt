use Rattle.std.proofs.Common.{refl}
use Rattle.dt_lists.proofs.Callers.{pairwise_refl}
use Rattle.dt_ring.specs.Rings.{SameIn, SameOut}
use Rattle.dt_run.proofs.seat.turn_node.Goals as goal

pub returns-clause-ins : goal.returns-clause-ins
returns-clause-ins g c = c.turn.ensures.same_ins c.args.ins.now (pairwise_refl SameIn (λ x. record { ring = refl; order = refl }) c.args.ins.now)

pub returns-clause-outs : goal.returns-clause-outs
returns-clause-outs g c = c.turn.ensures.same_outs c.args.outs.now (pairwise_refl SameOut (λ x. record { ring = refl; before = refl; places = refl }) c.args.outs.now)
