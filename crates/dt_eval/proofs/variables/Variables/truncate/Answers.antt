use Rattle.std.proofs.Common.{◌++◌, ◌≤◌, map, take, length, ap, ◌∙◌, arith}
use Rattle.dt_eval.specs.Data.{datum_of}
use Rattle.dt_eval.proofs.VariableLaws.{first_args, first_lets}
use Rattle.dt_eval.proofs.variables.Variables.truncate.Goals as goal

pub returns-then-n-self : goal.returns-then-n-self
returns-then-n-self c =
    ap (λ lets. map datum_of (take c.args.n c.self.inside.args.now) ++ lets) c.truncate.ensures.items ∙ first_args c.self.inside.args.now c.self.inside.lets.items c.args.n c.if-n-self.true ∙ ap (take c.args.n) c.self.view_is

pub returns-else-n-self : goal.returns-else-n-self
returns-else-n-self c =
    let past : length c.self.inside.args.now ≤ c.args.n = omega arith in
    ap (λ lets. map datum_of c.self.inside.args.now ++ lets) c.truncate-else-n-self.ensures.items ∙ first_lets c.self.inside.args.now c.self.inside.lets.items c.args.n past ∙ ap (take c.args.n) c.self.view_is
