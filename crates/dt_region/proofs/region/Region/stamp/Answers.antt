use Rattle.std.proofs.Common.{sym, ap, ◌∙◌}
use Rattle.dt_events.specs.Stamps.{last_stamp}
use Rattle.dt_region.specs.Region.{RegionView}
use Rattle.dt_region.proofs.Stamps.{last_some}
use Rattle.dt_region.proofs.region.Region.stamp.Goals as goal

pub returns-in-Some : goal.returns-in-Some
returns-in-Some g c = sym (last_some c.as_slice.result.now c.in-Some.last.now (sym c.in-Some.ensures.value)) ∙ ap last_stamp (c.as_slice.ensures ∙ ap (λ (r : RegionView). r.events) c.self.view_is)
