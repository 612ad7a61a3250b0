use Rattle.std.proofs.Common.{◌<◌, ◌≤◌, ◌+◌, ◌^◌, length, vec_capacity, ap, arith}
use Rattle.dt_graph.proofs.KeptVertices.{kept_pushed}
use Rattle.dt_graph.proofs.vertices.Vertices.push.Goals as goal

pub invariant_of-self : goal.invariant_of-self
invariant_of-self c =
    let s = c.self.inside in
    let few : length s.records.vertices + 1 < 2 ^ 32 = omega (arith, c.requires.few, ap (λ v. length v.vertices) c.self.view_is) in
    let ready : length s.records.vertices + 1 ≤ vec_capacity s.ready = omega (arith, c.requires.room, ap (λ v. v.room) c.self.view_is) in
    let stuck : length s.records.vertices + 1 ≤ vec_capacity s.stuck = omega (arith, c.requires.room, ap (λ v. v.room) c.self.view_is) in
    kept_pushed s.records c.push.new.self _ _ _ _ c.args.vertex c.self.invariant c.push.ensures.states c.push.ensures.vertices c.push.ensures.first few ready stuck
