use Rattle.std.proofs.Common.{◌≢◌, sym, ap, subst, ◌∙◌}
use Rattle.dt_txn.specs.declared.txn.Txn.{Txn}
use Rattle.dt_region.proofs.HeldTransactions.{keep_own, keep_other}
use Rattle.dt_region.proofs.foreign.Foreign.keep.Goals as goal

pub returns-then-get-number-clause-kept : goal.returns-then-get-number-clause-kept
returns-then-get-number-clause-kept c submitted counted own =
    let other = subst (λ (txn : Txn). txn.id.region ≢ c.args.number) c.get.ensures c.if-get-number.true in
    c.hold.ensures.held ∙ sym (keep_other c.args.number submitted c.args.self.now.txns c.args.txn counted other)

pub returns-else-get-number-clause-kept : goal.returns-else-get-number-clause-kept
returns-else-get-number-clause-kept c submitted counted own =
    sym (keep_own c.args.number submitted c.args.self.now.txns c.args.txn own (ap (λ (txn : Txn). txn.id.region) (sym c.get.ensures) ∙ c.if-get-number.false))
