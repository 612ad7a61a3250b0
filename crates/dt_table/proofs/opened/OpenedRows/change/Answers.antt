use Rattle.std.proofs.Common.{◌<◌, length, arith, subst, sym}
use Rattle.dt_table.specs.RowsInner.{KeyValues}
use Rattle.dt_table.proofs.RowsNow.{length-rows_now, rows_now-set}
use Rattle.dt_table.proofs.opened.OpenedRows.change.Goals as goal

pub index_mut-requires : goal.index_mut-requires
index_mut-requires c =
    let a = c.self.inside in
    let within = subst (λ (es : KeyValues). c.args.place < length es) (sym c.self.view_is) c.requires in
    omega (arith, a.kept.ok.0, c.self.invariant.each, length-rows_now a.opening.value.entries a.kept.items c.self.invariant.each, within)

pub returns : goal.returns
returns c =
    let a = c.self.inside in
    rw (← c.self.view_is) (rows_now-set a.opening.value.entries a.kept.items c.args.place c.args.value)
