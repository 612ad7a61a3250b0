use Rattle.std.proofs.Common.{sym, subst, ◌∙◌}
use Rattle.dt_text.specs.Texts.{IsStr}
use Rattle.dt_gen.proofs.AccountKeys.{account_key}
use Rattle.dt_gen.proofs.accounts.text_of.Goals as goal

pub new-requires : goal.new-requires
new-requires c = subst IsStr (sym (c.bytes.ensures.same ∙ c.key_of-key.ensures)) (account_key c.args.number c.requires.number).1
