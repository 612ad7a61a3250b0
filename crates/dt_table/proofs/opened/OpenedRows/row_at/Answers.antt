use Rattle.std.proofs.Common.{◌<◌, Some, ap, length, slice_get, sym, subst, arith, ◌∙◌}
use Rattle.std.specs.Vec.{vec_len}
use Rattle.std.proofs.lemmas.Option.{slice_get_read}
use Rattle.dt_lists.proofs.Callers.{at_place, none_some}
use Rattle.dt_table.specs.RowsInner.{KeyValues}
use Rattle.dt_table.proofs.RowsNow.{length-rows_now, row_at}
use Rattle.dt_table.proofs.opened.OpenedRows.row_at.Goals as goal

pub unreachable-requires : goal.unreachable-requires
unreachable-requires c =
    let rows = c.self.inside.opening.value.entries in
    let within = subst (λ (es : KeyValues). c.args.place < length es) (sym c.self.view_is) c.requires in
    let none = c.in_default.ensures.entry ∙ ap (λ m. slice_get m.entries c.args.place) c.deref.ensures in
    none_some (sym none) (at_place rows c.args.place (omega (arith, length-rows_now rows c.self.inside.kept.items c.self.invariant.each, within))).1

pub index-requires : goal.index-requires
index-requires c =
    let a = c.self.inside in
    let within = subst (λ (es : KeyValues). c.args.place < length es) (sym c.self.view_is) c.requires in
    omega (arith, a.kept.ok.0, c.self.invariant.each, length-rows_now a.opening.value.entries a.kept.items c.self.invariant.each, within)

pub returns-in-AsOpened : goal.returns-in-AsOpened
returns-in-AsOpened c =
    let a = c.self.inside in
    let rows = a.opening.value.entries in
    let place = c.args.place in
    let within = subst (λ (es : KeyValues). place < length es) (sym c.self.view_is) c.requires in
    let known : place < vec_len a.kept = omega (arith, a.kept.ok.0, c.self.invariant.each, length-rows_now rows a.kept.items c.self.invariant.each, within) in
    let there = sym (c.in-Some.ensures.entry ∙ ap (λ m. slice_get m.entries place) c.deref.ensures) in
    let kept = slice_get_read a.kept.items (vec_len a.kept) place c.index.result.now a.kept.ok.0 known c.index.ensures ∙ ap (λ k. Some k) c.in-AsOpened.is in
    rw (← c.self.view_is) (row_at rows a.kept.items place _ _ there kept)

pub returns-in-Now : goal.returns-in-Now
returns-in-Now c =
    let a = c.self.inside in
    let rows = a.opening.value.entries in
    let place = c.args.place in
    let within = subst (λ (es : KeyValues). place < length es) (sym c.self.view_is) c.requires in
    let known : place < vec_len a.kept = omega (arith, a.kept.ok.0, c.self.invariant.each, length-rows_now rows a.kept.items c.self.invariant.each, within) in
    let there = sym (c.in-Some.ensures.entry ∙ ap (λ m. slice_get m.entries place) c.deref.ensures) in
    let kept = slice_get_read a.kept.items (vec_len a.kept) place c.index.result.now a.kept.ok.0 known c.index.ensures ∙ ap (λ k. Some k) c.in-Now.is in
    rw (← c.self.view_is) (row_at rows a.kept.items place _ _ there kept ∙ ap (λ w. Some (c.in-Some.key.now, w)) (sym c.as_ref.ensures.value))
