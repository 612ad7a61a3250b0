use Rattle.std.proofs.Common.{IsSome, refl, sym, subst}
use Rattle.dt_queue.specs.NextInner.{marks_left}
use Rattle.dt_queue.proofs.CellUses.{apart_lanes}
use Rattle.dt_queue.proofs.EntriesOfCells.{followers_are, waits}
use Rattle.dt_queue.proofs.queues.Queues.followers.Goals as goal

pub index-requires : goal.index-requires
index-requires c =
    let w = waits c.self.inside.kept c.self.invariant c.args.slot (rw (← c.self.view_is) at c.requires) in
    subst IsSome (sym w.1) refl

pub invariant_of-result : goal.invariant_of-result
invariant_of-result c = rw c.next.ensures.table (apart_lanes c.self.inside.kept c.self.invariant)

pub returns : goal.returns
returns c =
    let k = c.self.inside.kept in
    rw (← c.self.view_is) (followers_are k c.self.invariant c.args.slot c.index.result.now c.index.ensures (marks_left c.next.result) c.next.ensures.marks)

pub next-requires : goal.next-requires
next-requires c = record { kept = c.self.invariant; there = (c.args.slot, c.index.ensures) }
