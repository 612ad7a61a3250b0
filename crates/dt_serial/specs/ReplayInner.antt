-- Only proofs need this file: running a part of a history over again, which is some of its transactions, each with the effect
-- that it had in the whole run. It is how a part is compared with its history: the part's own run gives the same table
-- (`one_table` in src/laws.rt). Read next: proofs/Runs.antt, for whoever changes them.
use Rattle.std.specs.Prelude.{Bool, List, [], ◌∷◌, if◌then◌else◌}
use Rattle.dt_access.specs.declared.TxnId.{TxnId}
use Rattle.dt_proc.specs.Tree.{ProcTree}
use Rattle.dt_table.specs.Table.{Table, apply}
use Rattle.dt_txn.specs.declared.txn.Txn.{Txn}
use Rattle.dt_txn.specs.Execution.{one}
use Rattle.dt_txn.specs.Serial.{after}

-- the second table after the effects that the chosen ones of these transactions have when all run from the first table
abbrev pub replay : List ProcTree → (TxnId → Bool) → List Txn → Table → Table → Table
replay procs chosen [] t replayed = replayed
replay procs chosen (x ∷ txns) t replayed = replay procs chosen txns (after procs x t) (if chosen x.id then apply (one procs x t).1 replayed else replayed)
