use Rattle.std.proofs.Common.{◌≡◌, ℕ, ◌+◌, ◌-◌, ◌<◌, ap, sym, ◌∙◌, arith, length, get_or, slice_get, Some, None, Option}
use Rattle.std.specs.Option.{option_map}
use Rattle.dt_table.specs.Table.{Moved}
use Rattle.dt_table.specs.StoredMovesInner.{history}
use Rattle.dt_table.specs.declared.stored.StoredMove.{StoredMove}
use Rattle.dt_table.proofs.MoveHistories.{length-walked, earlier-walked, last-walked, before-walked, mover_in-next}
use Rattle.dt_table.proofs.stored.mover_of.Goals as goal

abbrev no_move : StoredMove
no_move = record { target = 0; by = record { seq = 0; region = 0 }; before = None }

pub returns-in_err-place-2 : goal.returns-in_err-place-2
returns-in_err-place-2 c =
    let moves = c.args.moves.now in
    let walked = length-walked moves c.loop-later.place no_move c.requires.linked c.loop-later.invariant.within in
    let none = ap (λ (before : Option ℕ). length (history moves before)) c.in_err-place-2.was in
    absurd (omega (arith, walked, none, c.loop-later.invariant.left))

pub loop-later-preserved : goal.loop-later-preserved
loop-later-preserved c =
    let moves = c.args.moves.now in
    let place = c.loop-later.place in
    let before = (get_or moves place no_move).before in
    let walked = length-walked moves place no_move c.requires.linked c.loop-later.invariant.within in
    let back = c.in_ok-place-2.was in
    let same_length = ap (λ (b : Option ℕ). length (history moves b)) back in
    let early : c.args.number - 1 < length (history moves before) = omega (arith, walked, c.loop-later.invariant.left) in
    let earlier = earlier-walked moves place no_move c.requires.linked c.loop-later.invariant.within (c.args.number - 1) early in
    record {
      within = before-walked moves place no_move c.requires.linked c.loop-later.invariant.within c.in_ok-place-2.place back;
      left = omega (arith, walked, same_length, c.loop-later.invariant.left);
      same = ap (λ (b : Option ℕ). slice_get (history moves b) (c.args.number - 1)) (sym back) ∙ sym earlier ∙ c.loop-later.invariant.same;
    }

pub returns : goal.returns
returns c =
    let moves = c.args.moves.now in
    let place = c.loop-later.place in
    let before = (get_or moves place no_move).before in
    let walked = length-walked moves place no_move c.requires.linked c.loop-later.invariant.within in
    let all : length (history moves before) ≡ c.args.number - 1 = omega (arith, walked, c.loop-later.invariant.left) in
    let next : c.args.number ≡ (c.args.number - 1) + 1 = omega arith in
    let mover = option_map (λ (m : Moved). m.by) in
    sym (
    mover_in-next (history moves c.args.unit.now.last) c.args.number (c.args.number - 1) next
    ∙ ap mover (sym c.loop-later.invariant.same ∙ ap (slice_get (history moves (Some place))) (sym all) ∙ last-walked moves place no_move c.requires.linked c.loop-later.invariant.within)
    )
