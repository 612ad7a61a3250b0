use Rattle.std.proofs.Common.{◌≡◌, sym, subst, ap, ◌∙◌}
use Rattle.dt_queue.specs.FurtherInner.{tail_of}
use Rattle.dt_queue.specs.LanesInner.{IsOneLane}
use Rattle.dt_queue.proofs.OneLane.{lane_pushed}
use Rattle.dt_queue.proofs.lane.Lane.push_to_tail.Goals as goal

pub invariant_of-self : goal.invariant_of-self
invariant_of-self c =
    let f = c.self.inside.first in
    let t : tail_of c.self.inside.further ≡ c.deref_mut.result.now = ap tail_of c.in-Marks.is ∙ sym c.deref_mut.ensures.value in
    let one = subst (IsOneLane f) t c.self.invariant.0 in
    let some = rw t at (rw (← c.self.view_is) at c.requires.some) in
    let last = rw t at (rw (← c.self.view_is) at c.requires.last) in
    (lane_pushed c.push.result f c.deref_mut.result.now c.push.new.self c.args.mark one some last c.push.ensures.added c.push.ensures.same, tt)
