-- Why a transaction did not give values. An abort comes from its procedure on the very table that it saw, and a stale
-- attempt from a move that was made before it; both are shown in the serial run, where a client can check them. The law
-- `reasons` says that every outcome has such a reason. Read next: that law in src/laws.rt; of the regions of a world
-- `HasCause` in `Agreement` of dt_session says the same.
use Rattle.std.specs.Prelude.{◌≡◌, ℕ, List, [], ◌∷◌, ◌++◌, slice_get, Some}
use Rattle.dt_lists.specs.Lists.{AnyIn, Has}
use Rattle.dt_access.specs.Clash.{Bytes}
use Rattle.dt_access.specs.Granules.{unit_of}
use Rattle.dt_access.specs.declared.TxnId.{TxnId}
use Rattle.dt_proc.specs.Tree.{ProcTree}
use Rattle.dt_table.specs.Table.{Table, moves_of}
use Rattle.dt_txn.specs.declared.txn.Body.TheVariants.{Move}
use Rattle.dt_txn.specs.declared.txn.Txn.{Txn}
use Rattle.dt_txn.specs.declared.outcome.Outcome.{Outcome}
use Rattle.dt_txn.specs.declared.outcome.Outcome.TheVariants.{Gave, Aborted, Stale}
use Rattle.dt_txn.specs.Execution.{see, reads_of, result_of}
use Rattle.dt_txn.specs.Serial.{outcomes, table_after}
use Rattle.dt_serial.specs.Order.{IsLive}

-- one of the transactions, `by`, is a move of the unit of this key and gave; in their last table it is the unit's move that
-- follows the first `had` ones
pub record MadeMove (procs : List ProcTree) (txns : List Txn) (start : Table) (key : Bytes) (had : ℕ) (by : TxnId) : Type 0 where
  pub mover : Txn
  pub moved : Bytes
  pub target : ℕ
  pub there : Has txns mover
  pub id : mover.id ≡ by
  pub body : mover.body ≡ Move moved target
  pub same : unit_of start.version moved ≡ unit_of start.version key
  pub gave : Has (outcomes procs txns start) (by, Gave [])
  pub number : slice_get (moves_of (table_after procs txns start) key) had ≡ Some (record { target = target; by = by })

-- what a transaction's procedure or move gives on a table
abbrev pub own_outcome : List ProcTree → Txn → Table → Outcome
own_outcome procs x t = (result_of procs x.id x.body (reads_of x.access (see x t))).0

-- why a transaction that ran after those in front has its outcome, where it is not given values: its procedure aborts on
-- the table that it saw, or it uses a key of the unit that it names, and one that ran before made the move of that unit
-- that follows those that it was annotated with
abbrev pub IsGrounded : (procs : List ProcTree) (front whole : List Txn) → Table → Txn → Outcome → Type 0
IsGrounded procs front whole start x (Gave values) = Unit {0}
IsGrounded procs front whole start x (Aborted cause) = IsLive x (table_after procs front start) × (own_outcome procs x (table_after procs front start) ≡ Aborted cause)
IsGrounded procs front whole start x (Stale unit had by) =
    AnyIn (λ a. (unit_of start.version a.key ≡ unit) × (a.counter ≡ had)) x.access × MadeMove procs front start unit had by × MadeMove procs whole start unit had by

-- the outcome is that of one of the transactions, and there is a reason for it
pub record HasReason (procs : List ProcTree) (txns : List Txn) (start : Table) (r : TxnId × Outcome) : Type 0 where
  pub txn : Txn
  pub front : List Txn
  pub rest : List Txn
  pub is : txns ≡ front ++ txn ∷ rest
  pub id : txn.id ≡ r.0
  pub reason : IsGrounded procs front txns start txn r.1
