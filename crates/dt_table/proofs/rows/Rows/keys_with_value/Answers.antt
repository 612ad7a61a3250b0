use Rattle.std.proofs.Common.{◌++◌, ap, sym, ◌∙◌}
use Rattle.dt_table.specs.StoredUnitInner.{keys_with_value}
use Rattle.dt_table.proofs.Layers.{distinct-others, keys_with_value-append}
use Rattle.dt_table.proofs.rows.Rows.keys_with_value.Goals as goal

pub returns-clause-keys : goal.returns-clause-keys
returns-clause-keys c =
    let a = c.self.inside in
    rw (← c.self.view_is) (c.in_ok-add_keys.ensures.keys ∙ ap (λ l. l ++ keys_with_value a.others.entries) c.in_ok-keys.ensures.keys
    ∙ sym (keys_with_value-append a.opened a.others.entries))

pub returns-clause-once : goal.returns-clause-once
returns-clause-once c =
    let a = c.self.inside in
    rw (← c.self.view_is) (distinct-others a.opened a.others.entries c.self.invariant c.in_ok-keys.ensures.once c.in_ok-add_keys.ensures.once)
