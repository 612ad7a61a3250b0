use Rattle.std.proofs.Common.{◌≡◌, ◌≤◌, ◌<◌, ◌∙◌, ap, get_or, length, subst, arith}
use Rattle.std.proofs.lemmas.List.{take_all}
use Rattle.dt_lists.specs.Lists.{AnyIn}
use Rattle.dt_waits.specs.Graph.{vertex_at}
use Rattle.dt_waits.specs.Waits.{lowered}
use Rattle.dt_graph.specs.SmallStepsInner.{AreLowered, IsFollowedAt, Wakes}
use Rattle.dt_graph.proofs.ReadyFollowers.{slot_spares, wakes_next}
use Rattle.dt_graph.proofs.Degrees.{lowered_next}
use Rattle.dt_graph.proofs.ReadyVertices.{followed_at_decided}
use Rattle.dt_graph.proofs.leave.free_slots.Goals as goal

pub loop-place-preserved : goal.loop-place-preserved
loop-place-preserved c =
    let q = c.args.queues.now in
    let u = c.args.vertex in
    let slots = (vertex_at c.args.vertices.now.vertices u).slots in
    let now = c.loop-place.vertices in let next = c.free_followers.new.vertices in
    let p = c.loop-place.place in
    let lt : p < length slots = omega (arith, c.loop-place-test.true, c.len-place-end.ensures, ap (λ x. length x.slots) c.get.ensures) in
    let told : c.as_slice.result.now ≡ slots = c.as_slice.ensures ∙ ap (λ x. x.slots) c.get-in-loop-place.ensures ∙ ap (λ l. (vertex_at l u).slots) c.loop-place.invariant.same in
    let fallen : AreLowered (lowered q (get_or slots p 0) u) now.degrees next.degrees = subst (λ l. AreLowered (lowered q (get_or l p 0) u) now.degrees next.degrees) told c.free_followers.ensures.lowered in
    record {
      lowering = lowered_next (λ slot v. lowered q slot u v) slots p lt _ _ _ c.loop-place.invariant.lowering fallen;
      wakes = wakes_next (λ slot v. IsFollowedAt q slot v) (followed_at_decided q) (λ slot v. lowered q slot u v) (λ slot v. slot_spares q slot u v) slots p lt
          _ _ fallen _ _ _ _ _ _ c.loop-place.invariant.wakes (subst (λ l. Wakes (IsFollowedAt q (get_or l p 0)) next.degrees now.stuck now.ready next.stuck next.ready) told c.free_followers.ensures.woken);
      same = c.free_followers.ensures.same ∙ c.loop-place.invariant.same;
      first = c.free_followers.ensures.first ∙ c.loop-place.invariant.first;
    }

pub returns-clause-woken : goal.returns-clause-woken
returns-clause-woken c =
    let slots = (vertex_at c.args.vertices.now.vertices c.args.vertex).slots in
    let old = c.args.vertices.now in let now = c.loop-place.vertices in
    let past : length slots ≤ c.loop-place.place = omega (arith, c.loop-place-test.false, c.len-place-end.ensures, ap (λ x. length x.slots) c.get.ensures) in
    subst (λ l. Wakes (λ v. AnyIn (λ slot. IsFollowedAt c.args.queues.now slot v) l) now.degrees old.stuck old.ready now.stuck now.ready) (take_all _ _ past) c.loop-place.invariant.wakes
