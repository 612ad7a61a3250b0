use Rattle.std.proofs.Common.{◌≡◌, ◌<◌, ◌≤◌, length, refl, arith, sym, ◌∙◌, ap}
use Rattle.std.specs.List.{remove}
use Rattle.dt_lists.proofs.Callers.{filter_each}
use Rattle.dt_queue.specs.declared.mark.Mark.{Mark}
use Rattle.dt_queue.specs.LanesInner.{EndsBelow}
use Rattle.dt_queue.proofs.Marks.{is_not, on_some, past_all_places, removed, untouched}
use Rattle.dt_queue.proofs.tail.Tail.remove.Goals as goal

pub invariant_of-self : goal.invariant_of-self
invariant_of-self c =
    let a = c.self.inside in
    let p = c.below-place.result in
    let n = c.args.number in
    let ends : EndsBelow n a.marks.items p = rw (← c.self.view_is) at c.below-place.ensures in
    let lt : p < length a.marks.items = omega (arith, c.in-Some.ensures.variant.0 refl, a.marks.ok.0) in
    let items : c.remove.new.self.items ≡ remove a.marks.items p = on_some _ c.remove.ensures.items (c.remove.ensures.variant.1 (omega (arith, c.in-Some.ensures.variant.0 refl))) in
    let same = ap (λ (m : Mark). m.number) (sym c.in-Some.ensures.lookup) ∙ c.if-mark-number.true in
    rw (items, removed n a.marks.items p c.in-Some.mark.now c.self.invariant ends lt same) (filter_each (λ m k. m.number < k.number) (is_not n) a.marks.items c.self.invariant)

pub returns-then-mark-number : goal.returns-then-mark-number
returns-then-mark-number c =
    let a = c.self.inside in
    let p = c.below-place.result in
    let n = c.args.number in
    let ends : EndsBelow n a.marks.items p = rw (← c.self.view_is) at c.below-place.ensures in
    let lt : p < length a.marks.items = omega (arith, c.in-Some.ensures.variant.0 refl, a.marks.ok.0) in
    let items : c.remove.new.self.items ≡ remove a.marks.items p = on_some _ c.remove.ensures.items (c.remove.ensures.variant.1 (omega (arith, c.in-Some.ensures.variant.0 refl))) in
    let same = ap (λ (m : Mark). m.number) (sym c.in-Some.ensures.lookup) ∙ c.if-mark-number.true in
    rw (← c.self.view_is) (items ∙ removed n a.marks.items p c.in-Some.mark.now c.self.invariant ends lt same)

pub returns-else-mark-number : goal.returns-else-mark-number
returns-else-mark-number c =
    let a = c.self.inside in
    let p = c.below-place.result in
    let n = c.args.number in
    let m : Mark = c.in-Some.mark.now in
    let ends : EndsBelow n a.marks.items p = rw (← c.self.view_is) at c.below-place.ensures in
    rw (← c.self.view_is) (untouched n a.marks.items p m c.self.invariant ends (λ lt e. c.if-mark-number.false (ap (λ (k : Mark). k.number) c.in-Some.ensures.lookup ∙ e)))

pub returns-in_default : goal.returns-in_default
returns-in_default c =
    let a = c.self.inside in
    let p = c.below-place.result in
    let n = c.args.number in
    let ends : EndsBelow n a.marks.items p = rw (← c.self.view_is) at c.below-place.ensures in
    let le : length a.marks.items ≤ p = omega (arith, past_all_places _ _ c.in_default.ensures.variant.1, a.marks.ok.0) in
    rw (← c.self.view_is) (untouched n a.marks.items p (record { number = 0; slot = 0; vertex = 0 }) c.self.invariant ends (λ lt. absurd (omega (arith, lt, le))))
