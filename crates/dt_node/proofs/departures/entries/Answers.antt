use Rattle.std.proofs.Common.{◌≡◌, ◌<◌, ◌++◌, ◌-◌, drop, get_or, length, slice_get, take, Some, sym, ap, ◌∙◌, arith}
use Rattle.std.specs.Prelude.{filter_map, option_to_list, unwrap_or}
use Rattle.std.proofs.lemmas.Option.{unwrap_or-slice_get}
use Rattle.dt_access.specs.declared.Part.{Part}
use Rattle.dt_node.specs.NodeView.{entry_held}
use Rattle.dt_node.proofs.PacketLists.{stretch_next}
use Rattle.dt_node.proofs.departures.entries.Goals as goal

pub loop-place-preserved : goal.loop-place-preserved
loop-place-preserved g c =
    let log = c.log-log.result.now in
    let s = c.args.region.now.state in
    let part = c.in-Some.part.now in
    let lt : c.loop-place.place < length log = omega (arith, c.loop-place-test.true, c.end_from-end.ensures, c.len.ensures) in
    let at : slice_get log c.loop-place.place ≡ Some part = sym c.in-Some.ensures in
    let is : get_or log c.loop-place.place part ≡ part = sym (unwrap_or-slice_get log c.loop-place.place part) ∙ ap (λ o. unwrap_or o part) at in
    c.in_ok-put_entry.ensures ∙ ap (λ l. l ++ option_to_list (entry_held s part)) c.loop-place.invariant
    ∙ sym (stretch_next (entry_held s) log c.args.first c.loop-place.place part c.loop-place.auto.place lt
    ∙ ap (λ (p : Part). filter_map (entry_held s) (take (c.loop-place.place - c.args.first) (drop c.args.first log)) ++ option_to_list (entry_held s p)) is)
