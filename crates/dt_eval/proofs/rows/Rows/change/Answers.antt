use Rattle.std.proofs.Common.{◌<◌, length, sym, ap, subst, ◌∙◌}
use Rattle.dt_eval.specs.Data.{declared_key, with_value}
use Rattle.dt_eval.proofs.RowParts.{items_changed, items_sound, place_in_items, place_in_marks}
use Rattle.dt_eval.proofs.rows.Rows.change.Goals as goal

pub index_mut-requires : goal.index_mut-requires
index_mut-requires c =
    subst (λ n. c.place_at-place.result < n) (sym c.self.inside.items.ok.0)
    (place_in_items c.self.inside.items.items c.self.inside.changed.items c.self.inside.places.items c.args.key c.place_at-place.result c.self.invariant.0 c.self.invariant.1 c.self.invariant.2
    (subst (λ s. c.args.key < length s.0) (sym c.self.view_is) c.requires) c.place_at-place.ensures)

pub mark-requires : goal.mark-requires
mark-requires c =
    place_in_marks c.self.inside.items.items c.self.inside.changed.items c.self.inside.places.items c.args.key c.place_at-place.result c.self.invariant.0 c.self.invariant.1 c.self.invariant.2
    (subst (λ s. c.args.key < length s.0) (sym c.self.view_is) c.requires) c.place_at-place.ensures

pub invariant_of-self : goal.invariant_of-self
invariant_of-self c =
    items_sound c.self.inside.items.items c.self.inside.changed.items c.self.inside.places.items c.args.key c.place_at-place.result c.self.invariant.0 c.self.invariant.1 c.self.invariant.2
    (subst (λ s. c.args.key < length s.0) (sym c.self.view_is) c.requires) c.place_at-place.ensures
    c.index_mut.result.now c.args.value c.index_mut.ensures.value c.mark.new.marks.items c.mark.ensures

pub returns : goal.returns
returns c =
    items_changed c.self.inside.items.items c.self.inside.changed.items c.self.inside.places.items c.args.key c.place_at-place.result c.self.invariant.0 c.self.invariant.1 c.self.invariant.2
    (subst (λ s. c.args.key < length s.0) (sym c.self.view_is) c.requires) c.place_at-place.ensures
    c.index_mut.result.now c.args.value c.index_mut.ensures.value c.mark.new.marks.items c.mark.ensures
    ∙ ap (λ s. (s.0, with_value (declared_key s.0 c.args.key) c.args.value s.1)) c.self.view_is
