use Rattle.std.proofs.Common.{◌≡◌, ◌<◌, ◌≤◌, length, map, slice_set, refl, arith, ◌∙◌, ap}
use Rattle.dt_lists.specs.Lists.{AllIn}
use Rattle.dt_queue.specs.declared.mark.Mark.{Mark}
use Rattle.dt_queue.specs.LanesInner.{EndsBelow}
use Rattle.dt_queue.specs.NumbersInner.{IsGap, renumbered}
use Rattle.dt_queue.proofs.Marks.{past_all_places}
use Rattle.dt_queue.proofs.NewNumbers.{marks_rise, not_placed, placed_at}
use Rattle.dt_queue.proofs.tail.Tail.renumber.Goals as goal
use Rattle.dt_queue.proofs.tail.Tail.renumber.Goals.{After-index_mut}

-- with its new number at its place, all marks are as they are to be
set_there : (c : After-index_mut) → slice_set c.self.inside.marks.items c.below-place.result (record c.index_mut.result.now { number = c.args.new }) ≡ map (renumbered c.args.number c.args.new) c.self.inside.marks.items
set_there c =
    let a = c.self.inside in
    let p = c.below-place.result in
    let ends : EndsBelow c.args.number a.marks.items p = rw (← c.self.view_is) at c.below-place.ensures in
    let lt : p < length a.marks.items = omega (arith, c.in-Some.ensures.variant.0 refl, a.marks.ok.0) in
    placed_at c.args.number c.args.new a.marks.items p c.in-Some.mark.now c.index_mut.result.now c.self.invariant ends lt c.in-Some.ensures.lookup c.if-mark-number.true c.index_mut.ensures.value

pub invariant_of-self : goal.invariant_of-self
invariant_of-self c =
    let gap : AllIn (IsGap c.args.number c.args.new) c.self.inside.marks.items = rw (← c.self.view_is) at c.requires.gap in
    rw (set_there (goal.at.invariant_of-self c).After-index_mut) (marks_rise c.args.number c.args.new c.self.inside.marks.items c.requires.lesser gap c.self.invariant)

pub returns-then-mark-number : goal.returns-then-mark-number
returns-then-mark-number c = rw (← c.self.view_is) (set_there (goal.at.returns-then-mark-number c).After-index_mut)

pub returns-else-mark-number : goal.returns-else-mark-number
returns-else-mark-number c =
    let a = c.self.inside in
    let p = c.below-place.result in
    let n = c.args.number in
    let m : Mark = c.in-Some.mark.now in
    let ends : EndsBelow n a.marks.items p = rw (← c.self.view_is) at c.below-place.ensures in
    rw (← c.self.view_is) (not_placed n c.args.new a.marks.items p m c.self.invariant ends (λ lt e. c.if-mark-number.false (ap (λ (k : Mark). k.number) c.in-Some.ensures.lookup ∙ e)))

pub returns-in_default : goal.returns-in_default
returns-in_default c =
    let a = c.self.inside in
    let p = c.below-place.result in
    let n = c.args.number in
    let ends : EndsBelow n a.marks.items p = rw (← c.self.view_is) at c.below-place.ensures in
    let le : length a.marks.items ≤ p = omega (arith, past_all_places _ _ c.in_default.ensures.variant.1, a.marks.ok.0) in
    rw (← c.self.view_is) (not_placed n c.args.new a.marks.items p (record { number = 0; slot = 0; vertex = 0 }) c.self.invariant ends (λ lt. absurd (omega (arith, lt, le))))
