use Rattle.std.proofs.Common.{◌≡◌, ◌<◌, ◌≤◌, ◌+◌, ◌++◌, List, length, refl, arith, subst, sym, ◌∙◌, ap}
use Rattle.std.proofs.lemmas.List.{append-nil}
use Rattle.dt_queue.specs.declared.mark.Mark.{Mark}
use Rattle.dt_queue.specs.LanesInner.{EndsBelow}
use Rattle.dt_queue.proofs.Marks.{between_before, between_stop, none_past}
use Rattle.dt_queue.proofs.tail.Tail.add_between.Goals as goal

pub returns-in_default : goal.returns-in_default
returns-in_default c =
    sym (ap (λ (l : List Mark). c.args.marks.now.items ++ l) (none_past c.args.low c.args.high c.args.self.now (omega (arith, c.in_default.ensures, c.ranges.high.fits))) ∙ append-nil _)

pub loop-mark-init : goal.loop-mark-init
loop-mark-init c =
    let same : c.in-Some.next ≡ c.args.low + 1 = omega (arith, c.in-Some.ensures) in
    let ends : EndsBelow (c.args.low + 1) c.args.self.now c.below-place.result = subst (λ n. EndsBelow n c.args.self.now c.below-place.result) same c.below-place.ensures in
    record {
      added = sym (ap (λ (l : List Mark). c.args.marks.now.items ++ l) (between_before c.args.low c.args.high c.args.self.now c.below-place.result ends) ∙ append-nil _);
      above = ends.others;
    }

pub returns-then-mark-high : goal.returns-then-mark-high
returns-then-mark-high c =
    let a = c.self.inside in
    let m : Mark = c.in-Some-get.mark.now in
    let p = c.loop-mark.place in
    let lt : p < length a.marks.items = omega (arith, c.in-Some-get.ensures.variant.0 refl, a.marks.ok.0) in
    let high = subst (λ (k : Mark). c.args.high ≤ k.number) c.in-Some-get.ensures.lookup c.if-mark-high.true in
    c.loop-mark.invariant.added
    ∙ ap (λ (l : List Mark). c.args.marks.now.items ++ l) (rw (← c.self.view_is) (between_stop c.args.low c.args.high a.marks.items p m c.self.invariant lt high))
