use Rattle.dt_class.specs.Graphs.{IsSource}
use Rattle.dt_class.proofs.Graph.{all_blocked, class_of_source, source_of_last}
use Rattle.dt_class.proofs.Walk.{reach_closed}
use Rattle.dt_class.proofs.adj.Adj.source_class.Goals as goal

pub last_start-requires-clause-closed : goal.last_start-requires-clause-closed
last_start-requires-clause-closed c = reach_closed _ _ _ _ _ c.in_ok-found.ensures

pub returns-in_ok-ahead-in-Some : goal.returns-in_ok-ahead-in-Some
returns-in_ok-ahead-in-Some c =
    let reach = rw (c.as_slice-links.ensures.value, c.as_slice-newest.ensures.value) at c.in_ok-found.ensures in
    let last = rw (c.in-Some.is, c.as_slice-links.ensures.value, c.as_slice-newest.ensures.value) at c.in_ok-vertex.ensures in
    let source : IsSource c.args.self.now c.args.blocked.now c.in-Some.vertex =
    rw (← c.self.view_is) (source_of_last _ _ c.self.invariant.below _ _ reach c.in-Some.vertex last) in
    (c.in-Some.vertex, source, class_of_source _ _ _ _ source c.in_ok-ahead-in-Some.ensures)

pub returns-in-None : goal.returns-in-None
returns-in-None c =
    let reach = rw (c.as_slice-links.ensures.value, c.as_slice-newest.ensures.value) at c.in_ok-found.ensures in
    let last = rw (c.in-None.is, c.as_slice-newest.ensures.value) at c.in_ok-vertex.ensures in
    rw (← c.self.view_is) (all_blocked _ _ c.self.invariant.below _ _ reach last)
