use Rattle.std.proofs.Common.{◌≡◌, ◌∷◌, ap, arith, length, subst, sym, ◌∙◌}
use Rattle.dt_table.specs.MovedPlacesInner.{unit_number, IsNoted}
use Rattle.dt_table.specs.StoredUnitInner.{by_bytes}
use Rattle.dt_table.proofs.NotedPlaces.{noted_all, noted_next, noted_none, NotedBefore}
use Rattle.dt_table.proofs.units.note_stored.Goals as goal

pub loop-place-init : goal.loop-place-init
loop-place-init c =
    let made = c.make.new.self in
    let units = by_bytes c.args.units.now.entries in
    record {
      few = omega (arith, c.iter-unit-items.ensures.len, c.iter-unit-items.ensures.fits);
      noted = subst (λ rest. NotedBefore made (by_bytes rest) units) (sym c.iter-unit-items.ensures.rest) (noted_none made units);
    }

pub loop-place-preserved : goal.loop-place-preserved
loop-place-preserved c =
    let units = by_bytes c.args.units.now.entries in
    let before = c.loop-place.moved in
    let after = c.note.new.self in
    let step : c.loop-place.unit-iterator ≡ (c.in-Some.unit.now, c.in-Some.field-0-1.now) ∷ c.next.new.self = c.in-Some.ensures.steps in
    let this = subst (IsNoted after) (c.number_of.ensures ∙ ap unit_number c.as_slice.ensures.value) c.note.ensures.number in
    record {
      few = omega (arith, ap length step, c.loop-place.invariant.few);
      noted = noted_next before after _ (by_bytes c.next.new.self) units
          (subst (λ rest. NotedBefore before (by_bytes rest) units) step c.loop-place.invariant.noted) this c.note.ensures.others;
    }

pub returns : goal.returns
returns c =
    let after = c.loop-place.moved in
    let units = by_bytes c.args.units.now.entries in
    noted_all after units (subst (λ rest. NotedBefore after (by_bytes rest) units) c.in-None.ensures.steps.0 c.loop-place.invariant.noted)
