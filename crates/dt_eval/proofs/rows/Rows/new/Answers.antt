use Rattle.std.proofs.Common.{◌<◌, ◌∙◌, length, sym, subst}
use Rattle.dt_lists.specs.Lists.{AllIn, EachThen}
use Rattle.dt_access.specs.Orders.{KeyBefore}
use Rattle.dt_eval.specs.Data.{keys_in}
use Rattle.dt_eval.proofs.RowParts.{rows_made, view_made}
use Rattle.dt_eval.proofs.rows.Rows.new.Goals as goal

pub invariant_of-result : goal.invariant_of-result
invariant_of-result c =
    let long = c.len.ensures ∙ c.args.items.ok.0 in
    let rows = rows_made c.args.items.items c.in_ok-changed.changed.items c.len.result (c.in_ok-changed.ensures.items_if_clones_equal (λ y h. h)) long in (
      c.in_ok-changed.ensures.len ∙ long,
      subst (λ rs. AllIn (λ p. p < length rs) c.args.places.items) (sym rows) c.requires.places,
      subst (λ rs. EachThen KeyBefore (keys_in rs)) (sym rows) c.requires.keys,
    )

pub returns : goal.returns
returns c =
    view_made c.args.places.items c.args.items.items _
    (rows_made c.args.items.items c.in_ok-changed.changed.items c.len.result (c.in_ok-changed.ensures.items_if_clones_equal (λ y h. h)) (c.len.ensures ∙ c.args.items.ok.0))
