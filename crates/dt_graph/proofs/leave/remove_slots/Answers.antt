use Rattle.std.proofs.Common.{◌+◌, drop, subst, sym}
use Rattle.std.proofs.Math.ListN.{drop_of_length-le}
use Rattle.std.proofs.lemmas.List.{drop_more}
use Rattle.dt_graph.proofs.Removals.{IsTakingOut, taking_ends, taking_on}
use Rattle.dt_graph.proofs.leave.remove_slots.Goals as goal

pub loop-slot-preserved : goal.loop-slot-preserved
loop-slot-preserved c = subst (IsTakingOut c.args.slots.now (drop (c.loop-slot.slot-index + 1) c.args.slots.now) c.args.queues.now) (sym c.remove.ensures)
    (taking_on _ _ _ _ c.loop-slot.invariant _ _ (drop_more _ _ 0 c.loop-slot-test.true))

pub returns : goal.returns
returns c = taking_ends _ _ _ _ c.loop-slot.invariant (drop_of_length-le _ c.loop-slot-test.false)
