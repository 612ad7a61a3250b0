use Rattle.std.proofs.Common.{◌≡◌, ◌<◌, sym, subst, ◌∙◌}
use Rattle.std.specs.Prelude.{option_copied, length}
use Rattle.dt_eval.specs.Data.{declared_key, value_in}
use Rattle.dt_eval.proofs.RowParts.{item_value, place_in_items}
use Rattle.dt_eval.proofs.rows.Rows.value.Goals as goal

pub index-requires : goal.index-requires
index-requires c =
    subst (λ n. c.place_at.result < n) (sym c.self.inside.items.ok.0)
    (place_in_items c.self.inside.items.items c.self.inside.changed.items c.self.inside.places.items c.args.key c.place_at.result c.self.invariant.0 c.self.invariant.1 c.self.invariant.2
    (subst (λ s. c.args.key < length s.0) (sym c.self.view_is) c.requires) c.place_at.ensures)

pub returns : goal.returns
returns c =
    subst (λ s. option_copied c.as_ref.result ≡ value_in s.1 (declared_key s.0 c.args.key)) c.self.view_is
    (c.as_ref.ensures.value
    ∙ item_value c.self.inside.items.items c.self.inside.changed.items c.self.inside.places.items c.args.key c.place_at.result c.self.invariant.0 c.self.invariant.1 c.self.invariant.2
    (subst (λ s. c.args.key < length s.0) (sym c.self.view_is) c.requires) c.place_at.ensures c.index.result.now c.index.ensures)
