-- When a transaction is stale. A transaction names, of each key that it uses, how many moves of its unit the submitting
-- region knew. Where a table has more, the unit may have gone to another region's log, and the transaction changes
-- nothing; its outcome names the unit of the first such key, so that the session can try again. `Execution` computes that
-- outcome from the movers; the law `stale_outcomes` says when it comes, by the numbers of moves alone. Read next: that
-- law in src/laws.rt; docs/MOVES.md follows an example.
use Rattle.std.specs.Prelude.{◌≡◌, ◌<◌, ◌≤◌, ◌⊎◌, List, [], ◌∷◌}
use Rattle.dt_access.specs.declared.Access.{Access}
use Rattle.dt_table.specs.Table.{Table, counter_of}
use Rattle.dt_txn.specs.declared.outcome.Outcome.{Outcome}
use Rattle.dt_txn.specs.declared.outcome.Outcome.TheVariants.{Stale}

-- the outcome says that a unit was moved since the transaction was annotated
abbrev pub IsStaleOutcome : Outcome → Type 0
IsStaleOutcome (Stale unit had by) = Unit {0}
IsStaleOutcome outcome = ⊥

-- the table has more moves of the unit of the entry's key than the entry was annotated with
abbrev pub IsMovedSince : Table → Access → Type 0
IsMovedSince t a = a.counter < counter_of t a.key

-- `first` is the first entry of the list with more moves of its key's unit than it was annotated with
abbrev pub IsFirstMoved : Table → List Access → Access → Type 0
IsFirstMoved t [] first = ⊥
IsFirstMoved t (a ∷ access) first =
    ((first ≡ a) × IsMovedSince t a) ⊎ ((counter_of t a.key ≤ a.counter) × IsFirstMoved t access first)
