use Rattle.std.proofs.Common.{◌<◌, ◌++◌, get_or, length, sym, ap, ◌∙◌, arith}
use Rattle.std.specs.Prelude.{option_to_list}
use Rattle.dt_access.specs.declared.TxnId.{TxnId}
use Rattle.dt_region.specs.Region.{held}
use Rattle.dt_node.proofs.PacketLists.{stretch_next}
use Rattle.dt_node.proofs.departures.requests.Goals as goal

pub loop-place-preserved : goal.loop-place-preserved
loop-place-preserved g c =
    let asked = c.asked-asked.result.now in
    let none : TxnId = record { seq = 0; region = 0 } in
    let lt : c.loop-place.place < length asked = omega (arith, c.loop-place-test.true, c.end_from-end.ensures) in
    c.in_ok-put_held.ensures ∙ ap (λ l. l ++ option_to_list (held c.args.region.now.state (get_or asked c.loop-place.place none))) c.loop-place.invariant
    ∙ sym (stretch_next (held c.args.region.now.state) asked c.args.first c.loop-place.place none c.loop-place.auto.place lt)
