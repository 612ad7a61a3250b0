use Rattle.std.proofs.Common.{◌≡◌, ◌∙◌, ℕ, ap, get_or, subst, sym}
use Rattle.std.specs.List.{sum_by}
use Rattle.dt_lists.specs.Lists.{AllIn, AnyIn}
use Rattle.dt_lists.proofs.Callers.{has_at}
use Rattle.dt_queue.specs.Queues.{IsQueued}
use Rattle.dt_waits.specs.Graph.{vertex_at}
use Rattle.dt_waits.specs.Waits.{lowered, slots_of}
use Rattle.dt_graph.specs.SmallStepsInner.{AreLowered, IsFollowedAt, Wakes}
use Rattle.dt_graph.proofs.ReadyFollowers.{slots_spare, wakes_next}
use Rattle.dt_graph.proofs.Degrees.{lowered_next, taken_by}
use Rattle.dt_graph.proofs.Removals.{leaving_slots, leaving_wait}
use Rattle.dt_graph.proofs.ReadyVertices.{followed_decided}
use Rattle.dt_graph.proofs.leave.free_all.Goals as goal

pub free_slots-requires-clause-wait : goal.free_slots-requires-clause-wait
free_slots-requires-clause-wait c =
    let u = get_or c.args.leaving.now c.loop-vertex.vertex-index 0 in
    subst (λ l. AllIn (IsQueued c.args.queues.now) (vertex_at l u).slots) (sym c.loop-vertex.invariant.same) (leaving_wait _ _ _ c.requires.slots _ (has_at {A = ℕ} _ _ 0 c.loop-vertex-test.true))

pub loop-vertex-preserved : goal.loop-vertex-preserved
loop-vertex-preserved c =
    let q = c.args.queues.now in
    let u = get_or c.args.leaving.now c.loop-vertex.vertex-index 0 in
    let now = c.loop-vertex.vertices in let next = c.free_slots.new.vertices in
    let slots : (vertex_at now.vertices u).slots ≡ slots_of q u =
    ap (λ l. (vertex_at l u).slots) c.loop-vertex.invariant.same ∙ leaving_slots _ _ _ c.requires.slots _ (has_at {A = ℕ} _ _ 0 c.loop-vertex-test.true) in
    let fallen : AreLowered (taken_by q u) now.degrees next.degrees =
    subst (λ l. AreLowered (λ v. sum_by (λ slot. lowered q slot u v) l) now.degrees next.degrees) slots c.free_slots.ensures.lowered in
    record {
      lowering = lowered_next (taken_by q) _ _ c.loop-vertex-test.true _ _ _ c.loop-vertex.invariant.lowering fallen;
      wakes = wakes_next (λ u v. AnyIn (λ slot. IsFollowedAt q slot v) (slots_of q u)) (λ u v. followed_decided q (slots_of q u) v) (taken_by q) (λ u v. slots_spare q u v (slots_of q u)) _ _ c.loop-vertex-test.true
          _ _ fallen _ _ _ _ _ _ c.loop-vertex.invariant.wakes
          (subst (λ l. Wakes (λ v. AnyIn (λ slot. IsFollowedAt q slot v) l) next.degrees now.stuck now.ready next.stuck next.ready) slots c.free_slots.ensures.woken);
      same = c.free_slots.ensures.same ∙ c.loop-vertex.invariant.same;
      first = c.free_slots.ensures.first ∙ c.loop-vertex.invariant.first;
    }
