use Rattle.std.proofs.Common.{◌<◌, ◌∙◌, ap, arith, length, subst, sym}
use Rattle.std.specs.List.{IsDistinct}
use Rattle.std.proofs.lemmas.List.{take_all}
use Rattle.dt_access.specs.Clash.{same_key}
use Rattle.dt_table.specs.RowsInner.{KeyValues, rows_now}
use Rattle.dt_table.specs.StoredUnitInner.{keys_with_value}
use Rattle.dt_table.proofs.RowsNow.{keys_of-rows_now, length-rows_now}
use Rattle.dt_table.proofs.opened.OpenedRows.keys_with_value.Goals as goal

pub row_at-requires : goal.row_at-requires
row_at-requires c =
    let a = c.self.inside in
    let each = c.self.invariant.each in
    let within : c.loop-place.place < length (rows_now a.opening.value.entries a.kept.items) = omega (arith, a.kept.ok.0, each, length-rows_now a.opening.value.entries a.kept.items each, c.len-place-end.ensures, c.loop-place-test.true) in
    subst (λ (es : KeyValues). c.loop-place.place < length es) c.self.view_is within

pub returns-clause-keys : goal.returns-clause-keys
returns-clause-keys c =
    let a = c.self.inside in
    let each = c.self.invariant.each in
    let long = ap (λ (es : KeyValues). length es) (sym c.self.view_is) ∙ length-rows_now a.opening.value.entries a.kept.items each in
    c.loop-place.invariant ∙ ap keys_with_value (take_all c.loop-place.place c.args.self.now (omega (arith, a.kept.ok.0, each, long, c.len-place-end.ensures, c.loop-place-test.false)))

pub returns-clause-once : goal.returns-clause-once
returns-clause-once c =
    let a = c.self.inside in
    let once = subst (IsDistinct same_key) (sym (keys_of-rows_now a.opening.value.entries a.kept.items c.self.invariant.each)) c.self.invariant.once in
    rw (← c.self.view_is) once
