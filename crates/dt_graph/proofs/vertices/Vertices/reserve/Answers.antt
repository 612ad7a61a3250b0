use Rattle.std.proofs.Common.{◌≤◌, ℕ, length, vec_capacity, ap, arith}
use Rattle.std.proofs.lemmas.List.{length-map}
use Rattle.dt_lists.proofs.Callers.{few_below}
use Rattle.dt_graph.specs.VerticesInner.{AreVerticesKept, place_of_kind}
use Rattle.dt_graph.specs.declared.kept.Kind.TheVariants as kind
use Rattle.dt_graph.proofs.KeptVertices.{kept_same}
use Rattle.dt_graph.proofs.vertices.Vertices.reserve.Goals as goal
use Rattle.dt_graph.proofs.vertices.Vertices.reserve.Goals.{After-reserve-3}

self_le : (n : ℕ) → n ≤ n
self_le n = omega arith

-- what is kept stays so, with more room
kept_here : (c : After-reserve-3) → AreVerticesKept c.reserve.new.self c.self.inside.ready.items c.self.inside.stuck.items (vec_capacity c.reserve-2.new.self) (vec_capacity c.reserve-3.new.self)
kept_here c =
    let e = c.reserve.ensures.same in
    kept_same c.self.inside.records c.reserve.new.self _ _ _ _ _ _ c.self.invariant (ap (λ x. x.states) e) (ap (λ x. length x.vertices) e) (ap (λ x. x.first) e) c.reserve-2.ensures.capacity (c.reserve-3.ensures.capacity)

pub overflow_sub-records : goal.overflow_sub-records
overflow_sub-records c =
    let s = c.self.inside in
    let few = few_below _ s.ready.items c.self.invariant.are_ready.subset.once c.self.invariant.are_ready.subset.within in
    omega (arith, few, length-map s.records.states (place_of_kind kind.Ready), c.self.invariant.are_ready.sizes, c.len.ensures, c.len-records.ensures, s.ready.ok.0)

pub overflow_sub-records-2 : goal.overflow_sub-records-2
overflow_sub-records-2 c =
    let s = c.self.inside in
    let few = few_below _ s.stuck.items c.self.invariant.are_stuck.subset.once c.self.invariant.are_stuck.subset.within in
    omega (arith, few, length-map s.records.states (place_of_kind kind.Stuck), c.self.invariant.are_stuck.sizes, c.len-2.ensures, c.len-records.ensures, s.stuck.ok.0)

pub invariant_of-self-in_err-reserve-2 : goal.invariant_of-self-in_err-reserve-2
invariant_of-self-in_err-reserve-2 c =
    let e = c.reserve.ensures.same in
    rw c.reserve-2.ensures.items (kept_same c.self.inside.records c.reserve.new.self _ _ _ _ _ _ c.self.invariant (ap (λ x. x.states) e) (ap (λ x. length x.vertices) e) (ap (λ x. x.first) e) c.reserve-2.ensures.capacity (self_le _))

pub invariant_of-self-in_err-reserve-3 : goal.invariant_of-self-in_err-reserve-3
invariant_of-self-in_err-reserve-3 c = rw (c.reserve-2.ensures.items, c.reserve-3.ensures.items) (kept_here (goal.at.invariant_of-self-in_err-reserve-3 c).After-reserve-3)

pub invariant_of-self-2 : goal.invariant_of-self-2
invariant_of-self-2 c = rw (c.reserve-2.ensures.items, c.reserve-3.ensures.items) (kept_here (goal.at.invariant_of-self-2 c).After-reserve-3)
