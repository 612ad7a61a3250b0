use Rattle.std.proofs.Common.{sym, ◌∙◌}
use Rattle.dt_access.proofs.RowClashes.{row-less, row-greater, row-found, row-equal, row-none}
use Rattle.dt_access.proofs.clashes.meet_on_row.Goals as goal
use Rattle.dt_access.proofs.clashes.meet_on_row.Goals.{then-may_change-via-then-may_change, then-may_change-via-else-may_change+then-may_change-2}
use Rattle.std.proofs.lemmas.Bool.{or_left, or_right, or_from}

pub loop-left_key-preserved-in-Less : goal.loop-left_key-preserved-in-Less
loop-left_key-preserved-in-Less c =
    let i = c.loop-left_key.invariant in
    let s = row-less _ _ _ _ _ _ c.in-Some.ensures.cases.0 c.in-Some-split_first.ensures.cases.0 i.0 i.1 (sym c.cmp.ensures ∙ c.in-Less.is) in
    (s.0, s.1, s.2 ∙ i.2)

pub loop-left_key-preserved-in-Greater : goal.loop-left_key-preserved-in-Greater
loop-left_key-preserved-in-Greater c =
    let i = c.loop-left_key.invariant in
    let s = row-greater _ _ _ _ _ _ c.in-Some.ensures.cases.0 c.in-Some-split_first.ensures.cases.0 i.0 i.1 (sym c.cmp.ensures ∙ c.in-Greater.is) in
    (s.0, s.1, s.2 ∙ i.2)

pub returns-then-may_change : goal.returns-then-may_change
returns-then-may_change c =
    let i = c.loop-left_key.invariant in
    let found = row-found _ _ _ _ _ _ c.in-Some.ensures.cases.0 c.in-Some-split_first.ensures.cases.0 i.0 i.1 (sym c.cmp.ensures ∙ c.in-Equal.is) in
    found (elim c.then-may_change.branch [
      | then-may_change-via-then-may_change w ↦ or_left _ _ (sym c.may_change.ensures ∙ w.if-may_change.true)
      | then-may_change-via-else-may_change+then-may_change-2 w ↦ or_right _ _ (sym w.may_change-else-may_change.ensures ∙ w.if-may_change-2.true)
    ]) ∙ i.2

pub loop-left_key-preserved : goal.loop-left_key-preserved
loop-left_key-preserved c =
    let i = c.loop-left_key.invariant in
    let reads = or_from _ _ (sym c.may_change.ensures ∙ c.if-may_change.false) (sym c.may_change-else-may_change.ensures ∙ c.if-may_change-2.false) in
    let s = row-equal _ _ _ _ _ _ c.in-Some.ensures.cases.0 c.in-Some-split_first.ensures.cases.0 i.0 i.1 (sym c.cmp.ensures ∙ c.in-Equal.is) reads in
    (s.0, s.1, s.2 ∙ i.2)

pub returns-in_default-split_first : goal.returns-in_default-split_first
returns-in_default-split_first c =
    row-none c.loop-left_key.left.now c.loop-left_key.right.now c.in_default-split_first.ensures.cases ∙ c.loop-left_key.invariant.2
