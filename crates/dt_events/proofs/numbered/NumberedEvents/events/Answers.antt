use Rattle.std.proofs.Common.{ℕ, map, ap, sym, ◌∙◌}
use Rattle.std.proofs.lemmas.Slice.Zip.{seconds-zip}
use Rattle.dt_events.specs.declared.event.Event.{Event}
use Rattle.dt_events.proofs.numbered.NumberedEvents.events.Goals as goal

pub returns : goal.returns
returns c =
    c.as_slice.ensures.value ∙ sym (seconds-zip c.self.inside.lines.items c.self.inside.events.items (sym c.self.invariant)) ∙ ap (map (λ (event : ℕ × Event). event.1)) c.self.view_is
