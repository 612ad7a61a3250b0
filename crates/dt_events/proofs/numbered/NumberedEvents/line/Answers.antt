use Rattle.std.proofs.Common.{◌≡◌, ℕ, ◌<◌, map, length, get_or, vec_len, ap, sym, subst, ◌∙◌, rules}
use Rattle.std.proofs.lemmas.Slice.Zip.{firsts-zip}
use Rattle.std.proofs.lemmas.List.{get_or_default}
use Rattle.dt_events.specs.declared.event.Event.{Event}
use Rattle.dt_events.proofs.Numbering.{zip_length}
use Rattle.dt_events.proofs.numbered.NumberedEvents.line.Goals as goal

pub index-requires : goal.index-requires
index-requires c =
    let all : vec_len c.self.inside.lines ≡ length c.self.inside.lines.items = search rules in
    subst (λ n. c.args.at < n) (sym (ap length c.self.view_is) ∙ zip_length c.self.inside.lines.items c.self.inside.events.items c.self.invariant ∙ sym all) c.requires

pub returns : goal.returns
returns c =
    let within : c.args.at < length c.self.inside.lines.items =
    subst (λ n. c.args.at < n) (sym (ap length c.self.view_is) ∙ zip_length c.self.inside.lines.items c.self.inside.events.items c.self.invariant) c.requires in
    c.index.ensures ∙ get_or_default c.self.inside.lines.items c.args.at c.index.result.now 0 within
    ∙ ap (λ lines. get_or lines c.args.at 0) (sym (firsts-zip c.self.inside.lines.items c.self.inside.events.items (sym c.self.invariant)) ∙ ap (map (λ (event : ℕ × Event). event.0)) c.self.view_is)
