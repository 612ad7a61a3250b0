use Rattle.std.proofs.Common.{◌∙◌, drop, length, sym}
use Rattle.dt_lists.proofs.Callers.{pairwise_length}
use Rattle.dt_ring.specs.Rings.{SameIn, SameOut}
use Rattle.dt_run.specs.SeatsInner.{SeatView}
use Rattle.dt_run.proofs.SliceOffsets.{written_back}
use Rattle.dt_run.proofs.SeatTurns.{seat_turned}
use Rattle.dt_run.proofs.seat.Seat.make_turn.Goals as goal

pub returns-clause-whole : goal.returns-clause-whole
returns-clause-whole g c =
    let old = c.self.inside in
    let t = c.in_ok-turn_node.ensures in
    let new = c.turn_node.new in
    let before : SeatView = record { node = old.node; ins = old.ins.items; outs = old.outs.items; marks = old.marks.items; failed = old.failed } in
    let ins = pairwise_length SameIn c.as_mut_slice.result.now new.ins t.ins in
    let outs = pairwise_length SameOut c.as_mut_slice-2.result.now new.outs t.outs in
    seat_turned before c.self.view_is c.as_mut_slice.ensures.value c.as_mut_slice-2.ensures.value
    (written_back old.ins.len new.ins (drop (length new.ins) old.ins.items) (sym c.as_mut_slice.ensures.len ∙ ins))
    (written_back old.outs.len new.outs (drop (length new.outs) old.outs.items) (sym c.as_mut_slice-2.ensures.len ∙ outs)) c.events-kept.ensures c.region.ensures t.emptied t.steps t.taken t.settled
    t.begins t.sent t.whole c.in_ok-push.ensures.items
