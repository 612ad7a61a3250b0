use Rattle.std.proofs.Common.{rules}
use Rattle.dt_proc.specs.TreeViews.{expr_tree}
use Rattle.dt_eval.proofs.SortLaws.{given_sort}
use Rattle.dt_eval.proofs.frame.Frame.+value_of.Goals as goal

pub returns-in-Some-clause-sort : goal.returns-in-Some-clause-sort
returns-in-Some-clause-sort t c = λ s h. given_sort c.args.self.now (expr_tree c.args.expr.now) c.in_ok-given-in-Binary.field-0 s (search rules) h

pub returns-in_ok-datum-in-Var-clause-sort : goal.returns-in_ok-datum-in-Var-clause-sort
returns-in_ok-datum-in-Var-clause-sort t c = λ s h. given_sort c.args.self.now (expr_tree c.args.expr.now) c.in_ok-datum-in-Var.field-0 s (search rules) h
