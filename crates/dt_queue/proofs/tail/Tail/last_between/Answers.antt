use Rattle.std.proofs.Common.{arith}
use Rattle.dt_queue.proofs.Marks.{last_is, last_is_before, last_is_none}
use Rattle.dt_queue.proofs.tail.Tail.last_between.Goals as goal

pub returns-in_err-place : goal.returns-in_err-place
returns-in_err-place c =
    rw c.from_residual.ensures (last_is_none c.args.low c.args.high c.args.self.now c.below.result c.below.ensures (omega (arith, c.in_err-place.ensures)))

pub returns-then-low-mark : goal.returns-then-low-mark
returns-then-low-mark c =
    let a = c.self.inside in
    let m = c.in_ok-mark.field-0.now in
    let ends = rw (← c.self.view_is) at c.below.ensures in
    rw (← c.self.view_is)
    (last_is c.args.low c.args.high a.marks.items c.below.result c.in_ok-place.place m c.self.invariant ends (omega (arith, c.in_ok-place.ensures)) c.in_ok-mark.ensures.lookup c.if-low-mark.true)

pub returns-else-low-mark : goal.returns-else-low-mark
returns-else-low-mark c =
    let a = c.self.inside in
    let m = c.in_ok-mark.field-0.now in
    let ends = rw (← c.self.view_is) at c.below.ensures in
    rw (← c.self.view_is)
    (last_is_before c.args.low c.args.high a.marks.items c.below.result c.in_ok-place.place m c.self.invariant ends (omega (arith, c.in_ok-place.ensures)) c.in_ok-mark.ensures.lookup c.if-low-mark.false)
