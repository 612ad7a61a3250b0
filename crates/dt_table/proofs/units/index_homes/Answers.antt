use Rattle.std.proofs.Common.{ℕ, ◌∙◌, ap, take}
use Rattle.indexmap.specs.IndexMap.{insert_entry}
use Rattle.dt_access.specs.Clash.{Bytes, same_key}
use Rattle.dt_table.specs.StoredUnitInner.{by_bytes}
use Rattle.dt_table.proofs.ByBytes.{insert-by_bytes}
use Rattle.dt_table.proofs.OpeningTable.{next-entry}
use Rattle.dt_table.proofs.units.index_homes.Goals as goal

pub loop-unit-preserved : goal.loop-unit-preserved
loop-unit-preserved c =
    let x = c.loop-unit-item.result in
    let done = take c.loop-unit.unit-index c.args.homes.now in
    ap by_bytes c.in_ok-insert.ensures.entries
    ∙ insert-by_bytes c.loop-unit.index.entries c.in_ok-from_slice.field-0 x.1
    ∙ (λ i. insert_entry same_key (c.loop-unit.invariant i) ((c.in_ok-from_slice.ensures.items ∙ c.bytes.ensures.same) i) x.1)
    ∙ ap (λ (y : Bytes × ℕ). insert_entry same_key done y.0 y.1) c.loop-unit-item.is
    ∙ next-entry c.args.homes.now c.loop-unit.unit-index x c.requires c.loop-unit-test.true
