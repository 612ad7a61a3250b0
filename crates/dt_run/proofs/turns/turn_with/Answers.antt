use Rattle.std.proofs.Common.{All, sym, subst, ◌∙◌}
use Rattle.dt_run.specs.SeatsInner.{SeatCan}
use Rattle.dt_run.proofs.HelperTurns.{all_lent, all_went, back_again, left_can, some_of}
use Rattle.dt_run.proofs.turns.turn_with.Goals as goal

pub turn_all-requires-clause-can : goal.turn_all-requires-clause-can
turn_all-requires-clause-can g c κs within = subst (All (SeatCan c.args.procs.now)) (sym c.as_mut_slice.ensures.value) c.requires.can

pub returns-then-is_empty : goal.returns-then-is_empty
returns-then-is_empty g c = all_went c.args.seats.now.len c.args.seats.now.ok.0 c.as_mut_slice.ensures.value c.turn_all.ensures

pub lend_last-requires-clause-can : goal.lend_last-requires-clause-can
lend_last-requires-clause-can g c = all_lent (c.requires.turns (some_of _ _ c.is_empty.ensures c.if-is_empty.false)) _ c.requires.can

pub turn_all-requires-2-clause-can : goal.turn_all-requires-2-clause-can
turn_all-requires-2-clause-can g c κs within =
    let lent = c.lend_last.ensures in
    left_can _ _ c.lend_last.new.helpers c.lend_last.new.items.len c.lend_last.new.items.ok.0 (lent.len ∙ c.args.seats.now.ok.0) lent.front c.as_mut_slice-2.ensures.value c.requires.can

pub returns : goal.returns
returns g c =
    let lent = c.lend_last.ensures in
    let back = c.take_back.ensures in
    back_again (c.requires.turns (some_of _ _ c.is_empty.ensures c.if-is_empty.false)) c.lend_last.new.helpers c.lend_last.new.items.len c.lend_last.new.items.ok.0 (lent.len ∙ c.args.seats.now.ok.0) lent.front lent.lent
    c.as_mut_slice-2.ensures.value c.turn_all-2.ensures (sym c.take_back.new.items.ok.0 ∙ back.len) back.front back.back
