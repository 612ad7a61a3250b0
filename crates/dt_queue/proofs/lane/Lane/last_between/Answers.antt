use Rattle.std.proofs.Common.{None, sym, subst, ap, ◌∙◌}
use Rattle.dt_queue.specs.FurtherInner.{tail_of}
use Rattle.dt_queue.specs.LanesInner.{IsLastBetween}
use Rattle.dt_queue.proofs.OneLane.{last_of_first, last_of_tail, no_tail, none_found}
use Rattle.dt_queue.proofs.lane.Lane.last_between.Goals as goal
use Rattle.dt_queue.proofs.lane.Lane.last_between.Goals.{in-Marks+else-is_some, in_default}

pub returns-then-is_some : goal.returns-then-is_some
returns-then-is_some c =
    let found = subst (λ t. IsLastBetween c.args.low c.args.high t c.last_between-last.result) (c.deref.ensures ∙ sym (ap tail_of c.in-Marks.is)) c.last_between-last.ensures in
    rw (← c.self.view_is)
    (last_of_tail c.args.low c.args.high c.self.inside.first (tail_of c.self.inside.further) c.last_between-last.result c.self.invariant.0 (sym c.is_some.ensures ∙ c.if-is_some.true) found)

pub returns : goal.returns
returns c =
    let f = c.self.inside.first in
    let t = tail_of c.self.inside.further in
    let none : IsLastBetween c.args.low c.args.high t None = elim c.match-self.branch [
      | in-Marks+else-is_some w ↦
          let same = none_found w.is_some.result w.last_between-last.result w.is_some.ensures w.if-is_some.false in
          subst (λ l. IsLastBetween c.args.low c.args.high l None) (w.deref.ensures ∙ sym (ap tail_of w.in-Marks.is)) (subst (IsLastBetween c.args.low c.args.high w.deref.result.now) same w.last_between-last.ensures)
      | in_default w ↦ subst (λ l. IsLastBetween c.args.low c.args.high l None) (sym (no_tail c.self.inside.further w.in_default.not-Marks)) (λ m h b. h)
    ] in
    rw (← c.self.view_is) (last_of_first c.args.low c.args.high f t c.between.result c.between.ensures none)
