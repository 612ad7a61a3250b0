-- Only proofs need this file, and the calls of a private type: the transactions of other regions that a region keeps, as the
-- list in which they came. A transaction is kept once, so that one is found by its id. Read `Rules` for how the list grows,
-- which the word `keep` says.
use Rattle.std.specs.Prelude.{◌≡◌, ℕ, List}
use Rattle.dt_lists.specs.Lists.{AllIn}
use Rattle.dt_access.specs.declared.TxnId.{TxnId}
use Rattle.dt_txn.specs.declared.txn.Txn.{Txn}

-- transactions that are kept, and for how many more there is room
pub record ForeignView : Type 0 where
  pub txns : List Txn
  pub spare : ℕ

-- each transaction is kept under its own id
abbrev pub AreKeyed : List (TxnId × Txn) → Type 0
AreKeyed entries = AllIn (λ e. e.0 ≡ e.1.id) entries
