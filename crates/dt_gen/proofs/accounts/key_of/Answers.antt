use Rattle.std.proofs.Common.{length, get_or, ap, ◌∙◌, arith}
use Rattle.dt_text.specs.Texts.{Bytes}
use Rattle.dt_text.specs.declared.Value.{Value}
use Rattle.dt_gen.proofs.AccountKeys.{account_there, accounts_length}
use Rattle.dt_gen.proofs.accounts.key_of.Goals as goal

pub bounds-rows-number : goal.bounds-rows-number
bounds-rows-number c = omega (arith, ap length c.requires.rows, accounts_length)

pub returns : goal.returns
returns c =
    let d = c.index-rows-number.result in
    let there = ap (λ l. get_or l c.args.number d) c.requires.rows ∙ account_there c.args.number d c.requires.number in
    ap (λ (r : Bytes × Value). r.0) there
