use Rattle.std.proofs.Common.{◌≡◌, rules, sym, subst}
use Rattle.dt_text.specs.Texts.{IsKey}
use Rattle.dt_gen.specs.Load.{account}
use Rattle.dt_gen.proofs.AccountKeys.{account_key}
use Rattle.dt_gen.proofs.accounts.account_key.Goals as goal

pub new-requires : goal.new-requires
new-requires c =
    let is : c.as_slice.result.now ≡ account c.args.number = search rules in
    subst IsKey (sym is) (account_key c.args.number c.requires).0
