use Rattle.std.proofs.Common.{◌∙◌, sym, ap}
use Rattle.dt_txn.specs.Transaction.{uses_of}
use Rattle.dt_txn.specs.declared.Txn.{Txn}
use Rattle.dt_test_base.proofs.transactions.a_move.Goals as goal

pub returns-clause-uses : goal.returns-clause-uses
returns-clause-uses c =
    let version = c.args.table.now.state.version in
    (version, c.in_ok-annotate.ensures.uses ∙ ap (λ (txn : Txn). uses_of c.args.procs.now version txn.body) (sym c.in_ok-annotate.ensures.annotated))
