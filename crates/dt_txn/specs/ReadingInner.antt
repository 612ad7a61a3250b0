-- Scaffolding: what `execute` reads in a table before it runs a body. Only a private function of this crate cites this. Read
-- next: Execution, for what a transaction comes to.
use Rattle.std.specs.Prelude.{◌≡◌, List, Option, Some, None, Result, Ok, Err}
use Rattle.dt_access.specs.Clash.{Bytes}
use Rattle.dt_access.specs.declared.Access.{Access}
use Rattle.dt_text.specs.declared.Value.{Value}
use Rattle.dt_txn.specs.declared.outcome.Seen.{Seen}
use Rattle.dt_txn.specs.declared.outcome.Outcome.{Outcome}
use Rattle.dt_txn.specs.Execution.{reads_of, stale_of}

-- what is read, where nothing is stale, or else the outcome Stale, of what is seen at these entries
abbrev pub AreReads : List Access → List Seen → Result (List (Bytes × Option Value)) Outcome → Type 0
AreReads access seen (Ok reads) = (stale_of access seen ≡ None) × (reads ≡ reads_of access seen)
AreReads access seen (Err outcome) = stale_of access seen ≡ Some outcome
