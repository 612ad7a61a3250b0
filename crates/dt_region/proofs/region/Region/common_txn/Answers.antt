use Rattle.std.proofs.Common.{slice_get, sym, ap, ◌∙◌}
use Rattle.dt_region.proofs.Find.{held_numbered, held_foreign}
use Rattle.dt_region.proofs.region.Region.common_txn.Goals as goal

pub returns-then-id-self : goal.returns-then-id-self
returns-then-id-self g c = rw (← c.self.view_is) (c.get.ensures ∙ sym (held_foreign _ _ _ c.args.id c.self.invariant.well.0.counted c.if-id-self.true))

pub returns : goal.returns
returns g c =
    rw (← c.self.view_is)
    (held_numbered _ _ _ c.args.id _ c.self.invariant.well.0.counted c.self.invariant.well.0.foreign c.if-id-self.false c.numbered.ensures.none
    (λ place e. c.numbered.ensures.some place e ∙ ap (λ l. slice_get l place) c.as_slice.ensures.value))
