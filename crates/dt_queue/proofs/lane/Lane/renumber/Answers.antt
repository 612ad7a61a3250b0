use Rattle.std.proofs.Common.{◌≡◌, refl, sym, subst, ap, ◌∙◌}
use Rattle.dt_queue.specs.FurtherInner.{tail_of}
use Rattle.dt_queue.specs.LanesInner.{IsOneLane}
use Rattle.dt_queue.proofs.OneLane.{first_renumbered, tail_renumbered}
use Rattle.dt_queue.proofs.lane.Lane.renumber.Goals as goal

pub invariant_of-self-in-Marks : goal.invariant_of-self-in-Marks
invariant_of-self-in-Marks c =
    let f = c.self.inside.first in
    let t : tail_of c.self.inside.further ≡ c.deref_mut.result.now = ap tail_of c.in-Marks.is ∙ sym c.deref_mut.ensures.value in
    let gap = rw t at (rw (← c.self.view_is) at c.requires.gap) in
    rw c.renumber.ensures
    (tail_renumbered f c.deref_mut.result.now c.args.number c.args.new c.requires.positive c.requires.lesser gap (subst (IsOneLane f) t c.self.invariant.0) c.if-self-number.false, tt)

pub returns-then-self-number : goal.returns-then-self-number
returns-then-self-number c =
    let f = c.self.inside.first in
    rw (← c.self.view_is)
    (first_renumbered f (record f { number = c.args.new }) (tail_of c.self.inside.further) c.args.number c.args.new c.requires.positive c.requires.lesser c.self.invariant.0 c.if-self-number.true refl)
