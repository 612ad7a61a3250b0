use Rattle.std.proofs.Common.{◌≡◌, length, vec_len, ap, sym, ◌∙◌, rules}
use Rattle.dt_events.proofs.Numbering.{zip_length}
use Rattle.dt_events.proofs.numbered.NumberedEvents.len.Goals as goal

pub returns : goal.returns
returns c =
    let all : vec_len c.self.inside.events ≡ length c.self.inside.events.items = search rules in
    c.len.ensures ∙ all ∙ sym c.self.invariant ∙ sym (zip_length c.self.inside.lines.items c.self.inside.events.items c.self.invariant) ∙ ap length c.self.view_is
