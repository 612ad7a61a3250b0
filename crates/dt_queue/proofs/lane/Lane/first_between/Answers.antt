use Rattle.std.proofs.Common.{sym, subst, ap, ◌∙◌}
use Rattle.dt_queue.specs.FurtherInner.{tail_of}
use Rattle.dt_queue.specs.LanesInner.{IsFirstBetween, is_between}
use Rattle.dt_queue.proofs.OneLane.{between_none, between_some, first_of_all, first_of_tail}
use Rattle.dt_queue.proofs.lane.Lane.first_between.Goals as goal

pub returns-in-Marks : goal.returns-in-Marks
returns-in-Marks c =
    let f = c.self.inside.first in
    let b = between_none (is_between c.args.low c.args.high f) c.is_none.result f c.between-first.result c.between-first.ensures c.is_none.ensures c.if-is_none.true in
    let found = subst (λ t. IsFirstBetween c.args.low c.args.high t c.first_between.result) (c.deref.ensures ∙ sym (ap tail_of c.in-Marks.is)) c.first_between.ensures in
    rw (← c.self.view_is) (first_of_tail c.args.low c.args.high f (tail_of c.self.inside.further) c.first_between.result c.self.invariant.0 b found)

pub returns-in_default : goal.returns-in_default
returns-in_default c =
    let f = c.self.inside.first in
    let t = tail_of c.self.inside.further in
    let b = between_some (is_between c.args.low c.args.high f) c.is_none.result f c.between-first.result c.between-first.ensures c.is_none.ensures c.if-is_none.false in
    rw (b.1, ← c.self.view_is) (first_of_all c.args.low c.args.high f t c.self.invariant.0 b.0)
