-- Transactions that run one after another: the outcomes that they have and the table that they leave. This is the meaning
-- of the whole store, as the clients see it: whatever the regions did, there is one list of transactions whose serial run
-- gives every outcome. Read next the specifications of dt_serial, on runs in different orders.
use Rattle.std.specs.Prelude.{List, [], ◌∷◌}
use Rattle.dt_access.specs.declared.TxnId.{TxnId}
use Rattle.dt_proc.specs.Tree.{ProcTree}
use Rattle.dt_table.specs.Table.{Table, apply}
use Rattle.dt_txn.specs.declared.txn.Txn.{Txn}
use Rattle.dt_txn.specs.declared.outcome.Outcome.{Outcome}
use Rattle.dt_txn.specs.Execution.{one}

-- the table after a transaction, by these procedures
abbrev pub after : List ProcTree → Txn → Table → Table
after procs txn t = apply (one procs txn t).1 t

-- the outcomes of transactions that run one after another, each with its id
abbrev pub outcomes : List ProcTree → List Txn → Table → List (TxnId × Outcome)
outcomes procs [] t = []
outcomes procs (txn ∷ txns) t = (txn.id, (one procs txn t).0) ∷ outcomes procs txns (after procs txn t)

-- the table after transactions that ran one after another
abbrev pub table_after : List ProcTree → List Txn → Table → Table
table_after procs [] t = t
table_after procs (txn ∷ txns) t = table_after procs txns (after procs txn t)
