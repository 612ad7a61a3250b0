use Rattle.std.proofs.Common.{◌≡◌, drop, take}
use Rattle.dt_lists.specs.Lists.{AnyIn}
use Rattle.dt_waits.specs.Graph.{vertex_at}
use Rattle.dt_waits.specs.Waits.{lowered}
use Rattle.dt_graph.specs.SmallStepsInner.{IsFollowedAt, Wakes}
use Rattle.dt_graph.proofs.Degrees.{IsLoweringBy}
use Rattle.dt_graph.proofs.leave.free_slots.Given as goal

abbrev pub invariant-loop-place : goal.invariant-loop-place
invariant-loop-place l =
    let slots = (vertex_at l.initial.vertices.vertices l.vertex).slots in
    record {
      lowering : IsLoweringBy (λ slot v. lowered l.queues slot l.vertex v) slots (drop l.place slots) l.initial.vertices.degrees l.vertices.degrees;
      wakes : Wakes (λ v. AnyIn (λ slot. IsFollowedAt l.queues slot v) (take l.place slots)) l.vertices.degrees l.initial.vertices.stuck l.initial.vertices.ready l.vertices.stuck l.vertices.ready;
      same : l.vertices.vertices ≡ l.initial.vertices.vertices;
      first : l.vertices.first ≡ l.initial.vertices.first;
    }
