use Rattle.std.proofs.Common.{◌≡◌, ◌≤◌, ◌<◌, ◌-◌, ℕ, length}
use Rattle.dt_graph.specs.VerticesInner.{HasPassed}
use Rattle.dt_graph.proofs.waits.Waits.forget.Given as goal

abbrev pub invariant-loop-self : goal.invariant-loop-self
invariant-loop-self l = record {
  vertices : l.self.vertices ≡ record l.initial.self.vertices { first = l.self.vertices.first; room = l.self.vertices.room };
  queues : l.self.queues ≡ l.initial.self.queues;
  within : l.self.vertices.first ≤ length l.initial.self.vertices.vertices;
  passed : (v : ℕ) → l.initial.self.vertices.first ≤ v → v < l.self.vertices.first → HasPassed l.classes l.initial.self.vertices v;
}

abbrev pub decreases-loop-self : goal.decreases-loop-self
decreases-loop-self l = length l.self.vertices.vertices - l.self.vertices.first
