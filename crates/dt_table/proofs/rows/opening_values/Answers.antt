use Rattle.std.proofs.Common.{◌∙◌, ap, take}
use Rattle.indexmap.specs.IndexMap.{insert_entry}
use Rattle.dt_text.specs.declared.Value.{Value}
use Rattle.dt_access.specs.Clash.{Bytes, same_key}
use Rattle.dt_table.proofs.OpeningTable.{next-entry}
use Rattle.dt_table.proofs.rows.opening_values.Goals as goal

pub loop-key-preserved : goal.loop-key-preserved
loop-key-preserved c =
    let x = c.loop-key-item.result in
    let done = take c.loop-key.key-index c.args.rows.now in
    c.in_ok-insert.ensures.entries
    ∙ (λ i. insert_entry same_key (c.loop-key.invariant i) (c.in_ok-copy.ensures.same i) (c.in_ok-copy-2.ensures i))
    ∙ ap (λ (y : Bytes × Value). insert_entry same_key done y.0 y.1) c.loop-key-item.is
    ∙ next-entry c.args.rows.now c.loop-key.key-index x c.requires c.loop-key-test.true
