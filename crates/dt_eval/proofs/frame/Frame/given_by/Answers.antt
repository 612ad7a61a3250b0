use Rattle.dt_proc.specs.TreeViews.{expr_tree}
use Rattle.dt_eval.specs.declared.state.Datum.TheVariants.{Int}
use Rattle.dt_eval.proofs.SortLaws.{given_sort}
use Rattle.dt_eval.proofs.frame.Frame.given_by.Goals as goal

pub returns-in-Some-clause-sort : goal.returns-in-Some-clause-sort
returns-in-Some-clause-sort c = λ s h. given_sort c.args.self.now (expr_tree c.args.expr.now) (Int c.in-Some.number) s c.in-Some.ensures h
