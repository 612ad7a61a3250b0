use Rattle.std.proofs.lemmas.Result.{IfOk-weaker}
use Rattle.dt_class.specs.declared.link.Way.TheVariants.{Forth, Back}
use Rattle.dt_class.proofs.Graph.{reach_of_graph}
use Rattle.dt_class.proofs.adj.Adj.found.Goals as goal

pub returns-in-Forth : goal.returns-in-Forth
returns-in-Forth c =
    rw
    (← c.self.view_is, c.in-Forth.is)
    (IfOk-weaker c.reached.result _ _ (λ found r. reach_of_graph _ _ Forth _ found r)
    (rw (c.in-Forth.is, c.as_slice-links.ensures.value, c.as_slice.ensures.value) at c.reached.ensures))

pub returns-in-Back : goal.returns-in-Back
returns-in-Back c =
    rw
    (← c.self.view_is, c.in-Back.is)
    (IfOk-weaker c.reached-in-Back.result _ _ (λ found r. reach_of_graph _ _ Back _ found r)
    (rw (c.in-Back.is, c.as_slice-links.ensures.value, c.as_slice-in-Back.ensures.value, c.self.invariant.both_ways) at c.reached-in-Back.ensures))
