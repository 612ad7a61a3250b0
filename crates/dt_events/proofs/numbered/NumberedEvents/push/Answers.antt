use Rattle.std.proofs.Common.{◌∷◌, ◌++◌, [], ap, ◌∙◌}
use Rattle.std.specs.List.{zip}
use Rattle.dt_events.proofs.Numbering.{zip_more}
use Rattle.dt_events.proofs.numbered.NumberedEvents.push.Goals as goal

pub returns-clause-added : goal.returns-clause-added
returns-clause-added c =
    (λ i. zip (c.in_default.ensures.items i) (c.in_ok-push.ensures.items i)) ∙ zip_more c.self.inside.lines.items c.self.inside.events.items c.args.line c.args.event c.self.invariant
    ∙ ap (λ events. events ++ (c.args.line, c.args.event) ∷ []) c.self.view_is
