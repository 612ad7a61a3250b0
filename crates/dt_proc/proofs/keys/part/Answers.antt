use Rattle.std.proofs.Common.{◌∙◌, ap}
use Rattle.dt_proc.specs.SecondPass.{check_part}
use Rattle.dt_proc.proofs.ExprWalk.{told_right}
use Rattle.dt_syntax.proofs.Callers.{cut_first, part_show}
use Rattle.dt_proc.proofs.keys.part.Goals as goal

pub returns-in-Show-clause-right : goal.returns-in-Show-clause-right
returns-in-Show-clause-right c = λ i rest e.
    let s = part_show i rest c.first-item.result _ (e ∙ cut_first c.args.tokens.now c.first-item.result c.in-len1-up.len_at_least c.first-item.is) c.in-Show.is in
    told_right _ _ _ _ (ap (check_part c.args.scope.now) s.2) (c.shown_part.ensures.right s.0 s.1 rest s.3)
