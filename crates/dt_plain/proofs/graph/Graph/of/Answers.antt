use Rattle.dt_plain.proofs.Edges.{edges_turned}
use Rattle.dt_plain.proofs.graph.Graph.of.Goals as goal

pub invariant_of-result : goal.invariant_of-result
invariant_of-result c =
    record {
      whose = c.in_ok-ids.ensures;
      forth = c.in_ok-links.ensures;
      turned_round = rw (c.in_ok-back.ensures, c.as_slice.ensures) (edges_turned _ _ c.in_ok-links.ensures);
    }
