use Rattle.std.proofs.Common.{◌≡◌, true, false, ◌||◌, ap, ap₂, sym, ◌∙◌}
use Rattle.std.proofs.lemmas.Bool.{or_left, or_right, or_from}
use Rattle.dt_access.specs.Clash.{clash}
use Rattle.dt_access.specs.ClashSearchInner.{meet_on_row, takes_from}
use Rattle.dt_access.proofs.ClashParts.{clash_parts}
use Rattle.dt_access.proofs.clashes.clash.Goals as goal
use Rattle.dt_access.proofs.clashes.clash.Goals.{then-meet_on_row, else-meet_on_row}

pub returns-then-takes_from : goal.returns-then-takes_from
returns-then-takes_from c =
    let l = c.as_slice-left.result.now in
    let r = c.as_slice-right.result.now in
    let first : (meet_on_row l r || takes_from l r) ≡ true = elim c.if-meet_on_row.branch [
      | then-meet_on_row w ↦ or_left _ _ (sym c.meet_on_row.ensures ∙ w.if-meet_on_row.true)
      | else-meet_on_row w ↦ or_right _ _ (sym w.takes_from.ensures ∙ sym w.value-is ∙ c.if-takes_from.true)
    ] in
    c.if-takes_from.true ∙ sym (or_left _ (takes_from r l) first) ∙ clash_parts l r ∙ ap₂ clash c.as_slice-left.ensures.same c.as_slice-right.ensures.same

pub returns-else-takes_from : goal.returns-else-takes_from
returns-else-takes_from c =
    let l = c.as_slice-left.result.now in
    let r = c.as_slice-right.result.now in
    let first : (meet_on_row l r || takes_from l r) ≡ false = elim c.if-meet_on_row.branch [
      | then-meet_on_row w ↦ let yes : c.if-meet_on_row.value ≡ true = w.value-is ∙ w.if-meet_on_row.true in let no : c.if-meet_on_row.value ≡ false = c.if-takes_from.false in cc
      | else-meet_on_row w ↦ or_from _ _ (sym c.meet_on_row.ensures ∙ w.if-meet_on_row.false) (sym w.takes_from.ensures ∙ sym w.value-is ∙ c.if-takes_from.false)
    ] in
    c.takes_from-else-takes_from.ensures ∙ ap (λ t. t || takes_from r l) (sym first) ∙ clash_parts l r ∙ ap₂ clash c.as_slice-left.ensures.same c.as_slice-right.ensures.same
