use Rattle.std.proofs.Common.{◌≡◌, drop, take}
use Rattle.dt_waits.specs.Waits.{IsFollowed}
use Rattle.dt_graph.specs.SmallStepsInner.{Wakes}
use Rattle.dt_graph.proofs.Degrees.{IsLoweringBy, taken_by}
use Rattle.dt_graph.proofs.leave.free_all.Given as goal

abbrev pub invariant-loop-vertex : goal.invariant-loop-vertex
invariant-loop-vertex l = record {
  lowering : IsLoweringBy (taken_by l.queues) l.leaving (drop l.vertex-index l.leaving) l.initial.vertices.degrees l.vertices.degrees;
  wakes : Wakes (IsFollowed l.queues (take l.vertex-index l.leaving)) l.vertices.degrees l.initial.vertices.stuck l.initial.vertices.ready l.vertices.stuck l.vertices.ready;
  same : l.vertices.vertices ≡ l.initial.vertices.vertices;
  first : l.vertices.first ≡ l.initial.vertices.first;
}
