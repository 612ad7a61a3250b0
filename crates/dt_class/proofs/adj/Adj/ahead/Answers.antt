use Rattle.std.proofs.lemmas.Result.{IfOk-weaker}
use Rattle.dt_class.proofs.Graph.{vertices_of_marks}
use Rattle.dt_class.proofs.adj.Adj.ahead.Goals as goal

pub returns : goal.returns
returns c =
    IfOk-weaker c.ascending-2.result _ _ (λ list marked. vertices_of_marks _ _ _ _ list.items c.in_ok-found.ensures marked) c.ascending-2.ensures
