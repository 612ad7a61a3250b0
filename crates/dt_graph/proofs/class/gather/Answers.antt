use Rattle.std.proofs.Common.{◌≡◌, ◌∙◌, Some, ap, get_or, slice_get, subst, sym}
use Rattle.std.proofs.lemmas.Option.{slice_get-get_or}
use Rattle.dt_lists.specs.Lists.{AllIn}
use Rattle.dt_queue.specs.Queues.{IsQueued}
use Rattle.dt_graph.specs.LinksInner.{IsSourceAt, HasLinked}
use Rattle.dt_waits.specs.Waits.{slots_of}
use Rattle.dt_graph.proofs.WaitGraph.{gather_blocked, gather_free, gathered, kept_slots}
use Rattle.dt_graph.proofs.WaitEdges.{slots_wait}
use Rattle.dt_graph.proofs.class.gather.Goals as goal
use Rattle.dt_graph.proofs.class.gather.Goals.{then-branch+in_ok-push, else-branch}

pub link-requires-clause-waits : goal.link-requires-clause-waits
link-requires-clause-waits c =
    let slots = c.as_slice-slots.ensures ∙ ap (λ x. x.slots) c.get.ensures ∙ kept_slots _ _ _ _ _ c.requires.slots c.loop-place-test.true in
    subst (AllIn (IsQueued c.args.queues.now)) (sym slots) (slots_wait c.args.queues.now (get_or c.args.list.now c.loop-place.place 0))

pub loop-place-preserved : goal.loop-place-preserved
loop-place-preserved c =
    let q = c.args.queues.now in
    let list = c.args.list.now in
    let p = c.loop-place.place in
    let at : slice_get list p ≡ Some (get_or list p 0) = slice_get-get_or list p 0 c.loop-place-test.true in
    let slots : c.as_slice-slots.result.now ≡ slots_of q (get_or list p 0) = c.as_slice-slots.ensures ∙ ap (λ x. x.slots) c.get.ensures ∙ kept_slots _ _ _ _ _ c.requires.slots c.loop-place-test.true in
    let links : HasLinked (IsSourceAt q (slots_of q (get_or list p 0))) list p c.loop-place.graph c.link.new.graph c.in_ok-link.field-0 =
    subst (λ g. HasLinked (IsSourceAt q (slots_of q (get_or list p 0))) g p c.loop-place.graph c.link.new.graph c.in_ok-link.field-0) c.in_ok-group.ensures
    (subst (λ s. HasLinked (IsSourceAt q s) c.in_ok-group.group p c.loop-place.graph c.link.new.graph c.in_ok-link.field-0) slots c.in_ok-link.ensures) in
    elim c.if-branch.branch [
      | then-branch+in_ok-push w ↦ rw (w.blocked-is, w.in_ok-push.ensures.items) (gather_blocked q list p (get_or list p 0) _ _ _ _ at links c.loop-place.invariant w.if-branch.true)
      | else-branch w ↦ rw w.blocked-is (gather_free q list p (get_or list p 0) _ _ _ _ at links c.loop-place.invariant w.if-branch.false)
    ]

pub returns : goal.returns
returns c = gathered _ _ _ _ _ c.loop-place-test.false c.loop-place.invariant
