use Rattle.std.proofs.Common.{◌≡◌, ◌+◌, ◌<◌, ◌≤◌, deque_len, length, refl, arith, subst}
use Rattle.dt_queue.specs.LanesInner.{EndsBelow}
use Rattle.dt_queue.proofs.Marks.{first_is, first_is_none, first_is_past, past_all_places}
use Rattle.dt_queue.proofs.tail.Tail.first_between.Goals as goal

pub returns-in_err-mark : goal.returns-in_err-mark
returns-in_err-mark c =
    let a = c.self.inside in
    let same : c.in_ok-checked_add.field-0 ≡ c.args.low + 1 = omega (arith, c.in_ok-checked_add.ensures) in
    let ends : EndsBelow c.in_ok-checked_add.field-0 a.marks.items c.below-place.result = rw (← c.self.view_is) at c.below-place.ensures in
    let past = past_all_places c.below-place.result (deque_len a.marks) c.in_err-mark.ensures.variant.1 in
    let le : length a.marks.items ≤ c.below-place.result = omega (arith, past, a.marks.ok.0) in
    rw (c.from_residual-in_err-mark.ensures, ← c.self.view_is)
    (first_is_none c.args.low c.args.high a.marks.items c.below-place.result (subst (λ n. EndsBelow n a.marks.items c.below-place.result) same ends) le)

pub returns-then-mark-high : goal.returns-then-mark-high
returns-then-mark-high c =
    let a = c.self.inside in
    let m = c.in_ok-mark.field-0.now in
    let ends = subst (λ n. EndsBelow n a.marks.items c.below-place.result) (omega (arith, c.in_ok-checked_add.ensures)) (rw (← c.self.view_is) at c.below-place.ensures) in
    let lt : c.below-place.result < length a.marks.items = omega (arith, c.in_ok-mark.ensures.variant.0 refl, a.marks.ok.0) in
    rw (← c.self.view_is)
    (first_is c.args.low c.args.high a.marks.items c.below-place.result m c.self.invariant ends lt c.in_ok-mark.ensures.lookup c.if-mark-high.true)

pub returns-else-mark-high : goal.returns-else-mark-high
returns-else-mark-high c =
    let a = c.self.inside in
    let m = c.in_ok-mark.field-0.now in
    let ends = subst (λ n. EndsBelow n a.marks.items c.below-place.result) (omega (arith, c.in_ok-checked_add.ensures)) (rw (← c.self.view_is) at c.below-place.ensures) in
    let lt : c.below-place.result < length a.marks.items = omega (arith, c.in_ok-mark.ensures.variant.0 refl, a.marks.ok.0) in
    rw (← c.self.view_is)
    (first_is_past c.args.low c.args.high a.marks.items c.below-place.result m c.self.invariant ends lt c.in_ok-mark.ensures.lookup c.if-mark-high.false)
