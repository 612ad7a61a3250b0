use Rattle.std.proofs.Common.{◌∙◌, ap, subst, sym}
use Rattle.std.proofs.Math.ListN.{drop_of_length-le}
use Rattle.std.proofs.lemmas.List.{drop_more}
use Rattle.dt_lists.specs.Lists.{AllIn, Distinct}
use Rattle.dt_queue.specs.Queues.{IsQueued}
use Rattle.dt_graph.proofs.WalkByPlaces.{next_in}
use Rattle.dt_graph.proofs.Removals.{emptying_ends, emptying_on, leaving_once, leaving_wait, without_slots}
use Rattle.dt_graph.proofs.leave.remove_all.Goals as goal

pub remove_slots-requires-clause-once : goal.remove_slots-requires-clause-once
remove_slots-requires-clause-once c =
    let told = c.as_slice.ensures ∙ ap (λ x. x.slots) c.get.ensures in
    subst Distinct (sym told) (leaving_once _ _ _ c.loop-vertex.invariant.slots _ (next_in _ _ c.loop-vertex-test.true) c.loop-vertex.invariant.distinct)

pub remove_slots-requires-clause-wait : goal.remove_slots-requires-clause-wait
remove_slots-requires-clause-wait c =
    let told = c.as_slice.ensures ∙ ap (λ x. x.slots) c.get.ensures in
    subst (AllIn (IsQueued c.loop-vertex.queues)) (sym told) (leaving_wait _ _ _ c.loop-vertex.invariant.slots _ (next_in _ _ c.loop-vertex-test.true))

pub loop-vertex-preserved : goal.loop-vertex-preserved
loop-vertex-preserved c =
    let told = c.as_slice.ensures ∙ ap (λ x. x.slots) c.get.ensures in
    emptying_on _ _ _ _ _ c.loop-vertex.invariant _ _ (drop_more _ _ 0 c.loop-vertex-test.true) _ (c.remove_slots.ensures ∙ ap (λ l. without_slots l c.loop-vertex.queues) told)

pub returns : goal.returns
returns c = emptying_ends _ _ _ _ _ c.loop-vertex.invariant (drop_of_length-le _ c.loop-vertex-test.false)
