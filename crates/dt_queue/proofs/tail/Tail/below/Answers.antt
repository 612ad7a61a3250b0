use Rattle.std.proofs.Common.{nat_lt, rules, arith}
use Rattle.std.proofs.lemmas.List.Sorted.{IsPartitionPoint-from_clause}
use Rattle.dt_queue.proofs.Marks.{ends_at_end, ends_below, parted}
use Rattle.dt_queue.proofs.tail.Tail.below.Goals as goal

pub returns-then-are_below : goal.returns-then-are_below
returns-then-are_below c =
    let a = c.self.inside in
    let all = rw (← c.self.view_is) at (c.are_below.ensures c.if-are_below.true) in
    rw (← c.self.view_is) (ends_at_end c.args.number a.marks.items c.len.result all (omega (arith, c.len.ensures, a.marks.ok.0)))

pub returns : goal.returns
returns c =
    let a = c.self.inside in
    let n = c.args.number in
    rw (← c.self.view_is)
    (ends_below n a.marks.items c.partition_point.result
    (IsPartitionPoint-from_clause (λ m. nat_lt m.number n) _ _ c.partition_point.ensures.partitioned (parted n a.marks.items c.self.invariant) (λ x r q k. search rules))
    (omega (arith, c.partition_point.ensures.bound, a.marks.ok.0)))
