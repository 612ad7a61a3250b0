use Rattle.std.proofs.Common.{rules, false, get_or}
use Rattle.std.proofs.lemmas.Fn.{filter_same}
use Rattle.dt_class.proofs.Graph.{class_of_marks}
use Rattle.dt_class.proofs.adj.Adj.class_of.Goals as goal

pub returns : goal.returns
returns c =
    rw
    (filter_same _ (λ v. get_or c.in_ok-ahead.ahead.marks v false) _ (λ x b f' k. search rules) _ _ c.retain.ensures.filtered)
    (class_of_marks _ _ _ _ c.in_ok-class.ensures c.in_ok-ahead.ensures)
