use Rattle.std.proofs.Common.{◌≡◌, sym, subst, ap, ◌∙◌}
use Rattle.dt_queue.specs.FurtherInner.{tail_of}
use Rattle.dt_queue.specs.LanesInner.{IsOneLane}
use Rattle.dt_queue.proofs.OneLane.{first_gone, lane_less}
use Rattle.dt_queue.proofs.lane.Lane.remove.Goals as goal

pub invariant_of-self : goal.invariant_of-self
invariant_of-self c =
    let f = c.self.inside.first in
    let t : tail_of c.self.inside.further ≡ c.deref_mut.result.now = ap tail_of c.in-Marks.is ∙ sym c.deref_mut.ensures.value in
    rw c.remove.ensures (lane_less f c.deref_mut.result.now c.args.number (subst (IsOneLane f) t c.self.invariant.0) c.if-self-number.false, tt)

pub returns-then-self-number : goal.returns-then-self-number
returns-then-self-number c =
    rw (c.remove_first.ensures, ← c.self.view_is) (first_gone c.self.inside.first (tail_of c.self.inside.further) c.args.number c.self.invariant.0 c.if-self-number.true)
