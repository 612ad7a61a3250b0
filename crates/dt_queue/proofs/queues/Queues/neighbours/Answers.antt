use Rattle.std.proofs.Common.{IsSome, refl, ap, map, sym, subst, ◌∙◌}
use Rattle.std.proofs.lemmas.Result.{IfOk-weaker}
use Rattle.dt_queue.specs.declared.mark.Mark.{Mark}
use Rattle.dt_queue.proofs.EntriesOfCells.{neighbours_are, waits}
use Rattle.dt_queue.proofs.queues.Queues.neighbours.Goals as goal

pub index-requires : goal.index-requires
index-requires c =
    let w = waits c.self.inside.kept c.self.invariant c.args.slot (rw (← c.self.view_is) at c.requires) in
    subst IsSome (sym w.1) refl

pub near-requires : goal.near-requires
near-requires c = record { kept = c.self.invariant; row_in = c.self.invariant.known c.args.slot c.index.result.now c.index.ensures }

pub returns : goal.returns
returns c =
    let k = c.self.inside.kept in
    rw (← c.self.view_is)
    (IfOk-weaker c.vertices.result _ _ (λ found e. e ∙ ap
    (map (λ (m : Mark). m.vertex)) c.as_slice.ensures ∙ neighbours_are k c.self.invariant c.args.slot c.index.result.now c.index.ensures c.in_ok-marks.marks.items c.in_ok-marks.ensures) c.vertices.ensures)
