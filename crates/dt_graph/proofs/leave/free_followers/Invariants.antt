use Rattle.std.proofs.Common.{◌≡◌, length}
use Rattle.dt_graph.proofs.Followers.{IsFreeing}
use Rattle.dt_graph.proofs.leave.free_followers.Given as goal

abbrev pub invariant-loop-follower : goal.invariant-loop-follower
invariant-loop-follower l = record {
  freeing : IsFreeing l.queues l.slot l.vertex l.followers l.initial.vertices.degrees l.vertices.degrees l.initial.vertices.stuck l.initial.vertices.ready l.vertices.stuck l.vertices.ready;
  same : l.vertices.vertices ≡ l.initial.vertices.vertices;
  first : l.vertices.first ≡ l.initial.vertices.first;
}

abbrev pub decreases-loop-follower : goal.decreases-loop-follower
decreases-loop-follower l = length l.followers
