use Rattle.std.proofs.Common.{IsSome, refl, sym, subst}
use Rattle.dt_queue.proofs.EntriesOfCells.{shown_remove, waits}
use Rattle.dt_queue.proofs.queues.Queues.remove.Goals as goal

pub remove-requires : goal.remove-requires
remove-requires c =
    let w = waits c.self.inside.kept c.self.invariant c.args.slot (rw (← c.self.view_is) at c.requires) in
    record { kept = c.self.invariant; there = subst IsSome (sym w.1) refl }

pub returns : goal.returns
returns c =
    rw (← c.self.view_is) (shown_remove c.self.inside.kept c.remove.new.self c.args.slot c.self.invariant c.remove.ensures.kept c.remove.ensures.updates c.remove.ensures.rows)
