use Rattle.std.proofs.Common.{ap, None, sym, unwrap_or, ◌∙◌}
use Rattle.std.specs.Option.{option_copied}
use Rattle.dt_table.proofs.Layers.{found-first, found-other}
use Rattle.dt_table.proofs.rows.Rows.get.Goals as goal

pub returns-in-Some : goal.returns-in-Some
returns-in-Some c =
    let a = c.self.inside in
    let at = sym c.place_of.ensures ∙ c.in-Some.is in
    rw (← c.self.view_is) (found-first a.opened a.others.entries c.args.key.now c.in-Some.place _ at c.row_at.ensures)

pub returns-in_err-get-in-None : goal.returns-in_err-get-in-None
returns-in_err-get-in-None c =
    let a = c.self.inside in
    let absent = sym c.place_of.ensures ∙ c.in-None.is in
    rw (← c.self.view_is) (ap option_copied c.from_residual.ensures
    ∙ ap (λ o. unwrap_or o None) (c.in_err-get-in-None.ensures.value ∙ sym (found-other a.opened a.others.entries c.args.key.now absent)))

pub returns-in_ok-get-in-None : goal.returns-in_ok-get-in-None
returns-in_ok-get-in-None c =
    let a = c.self.inside in
    let absent = sym c.place_of.ensures ∙ c.in-None.is in
    rw (← c.self.view_is) (c.as_ref.ensures.value
    ∙ ap (λ o. unwrap_or o None) (c.in_ok-get-in-None.ensures.value ∙ sym (found-other a.opened a.others.entries c.args.key.now absent)))
