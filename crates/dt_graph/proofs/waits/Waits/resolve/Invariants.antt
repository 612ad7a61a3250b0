use Rattle.std.proofs.Common.{◌≡◌, take}
use Rattle.dt_graph.proofs.ClassMembers.{IsPutting}
use Rattle.dt_graph.proofs.waits.Waits.resolve.Given as goal

abbrev pub invariant-loop-vertex : goal.invariant-loop-vertex
invariant-loop-vertex l = record {
  put : IsPutting l.class (take l.vertex-index l.members) l.initial.self.vertices.vertices l.self.vertices.vertices l.initial.self.vertices.stuck l.self.vertices.stuck;
  degrees : l.self.vertices.degrees ≡ l.initial.self.vertices.degrees;
  queues : l.self.queues ≡ l.initial.self.queues;
  first : l.self.vertices.first ≡ l.initial.self.vertices.first;
  ready : l.self.vertices.ready ≡ l.initial.self.vertices.ready;
}
