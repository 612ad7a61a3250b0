-- A claim of one transaction: what a worker takes out of the lock, and what it brings back. A claim says only whose it is
-- and what the transaction saw; that it may run is said by the lock, of the claims that it notes as running (`Held`). What
-- a worker brings back can only be what its own claim comes to, so a worker is trusted with nothing. Read next: `Held`.
use Rattle.std.specs.Prelude.{◌≡◌, List, length, Some}
use Rattle.dt_proc.specs.Tree.{ProcTree}
use Rattle.dt_table.specs.declared.Effect.{Effect}
use Rattle.dt_txn.specs.declared.txn.Txn.{Txn}
use Rattle.dt_txn.specs.declared.outcome.Outcome.{Outcome}
use Rattle.dt_txn.specs.declared.outcome.Seen.{Seen}
use Rattle.dt_txn.specs.Transaction.{IsValid}
use Rattle.dt_txn.specs.Execution.{execution}
use Rattle.dt_region.specs.Region.{RegionState, held}

-- a claim, as contracts see it: the transaction, and what it saw when it was claimed
pub record ClaimView : Type 0 where
  pub txn : Txn
  pub seen : List Seen

-- a claim with what its transaction comes to
pub record FinishedView : Type 0 where
  pub claim : ClaimView
  pub outcome : Outcome
  pub effect : Effect

-- what every claim keeps, in a round that began with this region, by these procedures
pub record IsClaim (procs : List ProcTree) (before : RegionState) (claim : ClaimView) : Type 0 where
  -- its transaction is the one that the region holds under its id
  pub known : held before claim.txn.id ≡ Some claim.txn
  -- and is valid there
  pub valid : IsValid procs before.here.table.version before.regions claim.txn
  -- it saw one thing for each entry of its access list
  pub sized : length claim.seen ≡ length claim.txn.access

-- the outcome and the effect are what the claim's transaction comes to from what it saw, by these procedures
abbrev pub IsWorked : List ProcTree → FinishedView → Type 0
IsWorked procs f = (f.outcome, f.effect) ≡ execution procs f.claim.txn f.claim.seen
