use Rattle.std.proofs.Common.{◌≡◌, ◌∙◌, sym, None, Some, ap, arith}
use Rattle.std.specs.Option.{option_copied}
use Rattle.dt_region.specs.ByIdInner.{entry_place}
use Rattle.dt_region.proofs.ByIdLaws.{found_at, found_nowhere, place_inside}
use Rattle.dt_region.proofs.by_id.ById.get.Goals as goal

pub returns-in_err-place : goal.returns-in_err-place
returns-in_err-place g c =
    let none : entry_place c.self.inside.entries.items c.args.id ≡ None = sym (c.self.invariant c.args.id) ∙ sym c.get.ensures ∙ c.in_err-place.was in
    rw (← c.self.view_is, found_nowhere c.self.inside.entries.items c.args.id none) (ap option_copied c.from_residual.ensures)

pub index-requires : goal.index-requires
index-requires g c =
    let at : entry_place c.self.inside.entries.items c.args.id ≡ Some c.in_ok-place.place = sym (c.self.invariant c.args.id) ∙ sym c.get.ensures ∙ c.in_ok-place.was in
    omega (arith, c.self.inside.entries.ok.0, place_inside c.self.inside.entries.items c.args.id c.in_ok-place.place at)

pub returns : goal.returns
returns g c =
    let at : entry_place c.self.inside.entries.items c.args.id ≡ Some c.in_ok-place.place = sym (c.self.invariant c.args.id) ∙ sym c.get.ensures ∙ c.in_ok-place.was in
    rw (← c.self.view_is) (ap (λ (e : _ × _). Some e.1) c.index.ensures ∙ sym (found_at c.self.inside.entries.items c.args.id c.in_ok-place.place c.index.result.now at))
