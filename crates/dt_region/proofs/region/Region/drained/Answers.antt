use Rattle.std.proofs.Common.{sym, ◌∙◌}
use Rattle.dt_region.proofs.Drained.{drained_exactly, not_drained, ready_undrained}
use Rattle.dt_region.proofs.region.Region.drained.Goals as goal
use Rattle.dt_region.proofs.region.Region.drained.Goals.{then-not-has_inserted_all-via-then-not-has_inserted_all, then-not-has_inserted_all-via-else-not-has_inserted_all+in_ok-ready+then-is_some}

pub returns-then-not-has_inserted_all : goal.returns-then-not-has_inserted_all
returns-then-not-has_inserted_all g c = elim c.then-not-has_inserted_all.branch [
  | then-not-has_inserted_all-via-then-not-has_inserted_all w ↦ not_drained _ _ (λ d. c.has_inserted_all.ensures.1 d.inserted) w.if-not-has_inserted_all.true
  | then-not-has_inserted_all-via-else-not-has_inserted_all+in_ok-ready+then-is_some w ↦ ready_undrained _ _ w.in_ok-ready.field-0 (sym w.is_some.ensures ∙ w.if-is_some.true) w.in_ok-ready.ensures
]

pub returns : goal.returns
returns g c =
    drained_exactly _ _ (c.has_inserted_all.ensures.0 c.if-not-has_inserted_all.false) c.in_ok-ready.field-0 (sym c.is_some.ensures ∙ c.if-is_some.false) c.in_ok-ready.ensures
    c.in_ok-next_class.field-0 c.in_ok-next_class.ensures c.is_none.result c.is_none.ensures
