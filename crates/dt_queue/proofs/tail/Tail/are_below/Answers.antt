use Rattle.std.proofs.Common.{◌≡◌, ◌<◌, ◌+◌, ◌-◌, deque_len, length, refl, arith}
use Rattle.dt_queue.proofs.Marks.{below_by_last}
use Rattle.dt_queue.proofs.tail.Tail.are_below.Goals as goal

pub returns-in-Some : goal.returns-in-Some
returns-in-Some c t =
    let a = c.self.inside in
    let m = c.in-Some.last.now in
    let end : deque_len a.marks - 1 + 1 ≡ length a.marks.items = omega (arith, c.in-Some.ensures.variant.0 refl, a.marks.ok.0) in
    let less : m.number < c.args.number = grind (arith, t) in
    rw (← c.self.view_is) (below_by_last c.args.number a.marks.items (deque_len a.marks - 1) m c.self.invariant end c.in-Some.ensures.lookup less)
