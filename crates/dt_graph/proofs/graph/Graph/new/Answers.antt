use Rattle.dt_graph.proofs.Bounds.{fitted_none}
use Rattle.dt_graph.proofs.graph.Graph.new.Goals as goal

pub invariant_of-result : goal.invariant_of-result
invariant_of-result c =
    let e = c.new-2.ensures in
    rw (c.new.ensures, c.new-3.ensures.items) (fitted_none c.new-2.result e.vertices e.degrees e.ready e.stuck e.queues e.first)
