-- When a call of a region may be made: what a region may be given, so that its logs stay those of one world. Whoever calls
-- knows the world and shows it; the region itself could not. Read `Sound` next, for what holds of every region whose calls
-- were made so.
use Rattle.std.specs.Prelude.{◌≡◌, ◌≢◌, ◌<◌, ◌≤◌, ◌+◌, ◌^◌, ℕ, List, map, length, set, Some}
use Rattle.dt_lists.specs.Lists.{AllIn, Has, Distinct}
use Rattle.dt_access.specs.Clash.{Bytes}
use Rattle.dt_access.specs.declared.Part.{Part}
use Rattle.dt_access.specs.declared.TxnId.{TxnId}
use Rattle.dt_log.specs.Logs.{AgreeOnOverlap}
use Rattle.dt_sched.specs.Views.{View, HasPart, ids_of, log_at}
use Rattle.dt_sched.specs.Sched.{parts_in, with_part}
use Rattle.dt_proc.specs.Tree.{ProcTree}
use Rattle.dt_table.specs.Table.{Table, counter_of, moves_of}
use Rattle.dt_txn.specs.declared.txn.Body.{Body}
use Rattle.dt_txn.specs.declared.txn.Body.TheVariants.{Call, Move}
use Rattle.dt_txn.specs.declared.txn.Txn.{Txn}
use Rattle.dt_txn.specs.declared.txn.Entry.{Entry}
use Rattle.dt_txn.specs.Transaction.{homes_of, part_of, IsValid}
use Rattle.dt_txn.specs.Execution.{one}
use Rattle.dt_txn.specs.declared.outcome.Outcome.{Outcome}
use Rattle.dt_table.specs.declared.Effect.{Effect}
use Rattle.dt_txn.specs.Replica.{taken_from}
use Rattle.dt_region.specs.Region.{RegionState, held}
use Rattle.dt_region.specs.Rules.{with_entries}

-- a table is one for n regions: the homes that are listed for units are regions, and units were moved to regions
pub record IsTableFor (regions : ℕ) (table : Table) : Type 0 where
  pub sized : table.regions ≡ regions
  pub homes : AllIn (λ listed. listed.1 < regions) table.homes
  pub moves : (key : Bytes) → AllIn (λ moved. moved.target < regions) (moves_of table key)

-- the part is that of the transaction at a home, which is one of its homes
abbrev pub IsPartOf : Txn → ℕ → Part → Type 0
IsPartOf txn home part = Has (homes_of txn) home × (part ≡ part_of txn home)

-- the homes of a transaction are among n regions
abbrev pub HasHomesIn : ℕ → Txn → Type 0
HasHomesIn regions txn = AllIn (λ home. home < regions) (homes_of txn)

-- a transaction agrees with a region
pub record Agrees (s : RegionState) (txn : Txn) : Type 0 where
  -- its homes are regions
  pub homes : HasHomesIn s.regions txn
  -- it is the held transaction of its id, if there is one
  pub same : (other : Txn) → held s txn.id ≡ Some other → other ≡ txn
  -- if its id is of this region, the region submitted it
  pub own : txn.id.region ≡ s.number → Has s.submitted txn

-- the parts of all logs together are counted by 32 bits
abbrev pub AreFew : View → Type 0
AreFew logs = parts_in logs < 2 ^ 32

-- a region may be given this transaction as request `number` of a region
pub record CanAppend (s : RegionState) (source number : ℕ) (txn : Txn) : Type 0 where
  -- the region is one of its homes
  pub home : Has (homes_of txn) s.number
  pub agrees : Agrees s txn
  -- where it is the next request, its id isn't in the region's log, which has a place left for it
  pub fresh : number ≡ taken_from s.here source → ¬ (HasPart (log_at s.logs s.number) txn.id)
  pub few : number ≡ taken_from s.here source → AreFew (with_part s.logs (part_of txn s.number))

-- a region may be given these entries of a home's log, from place `first` on
pub record CanDeliver (s : RegionState) (home first : ℕ) (entries : List Entry) : Type 0 where
  -- the log is another region's
  pub other : home ≢ s.number
  -- entries that it has already are the same
  pub overlap : AgreeOnOverlap (log_at s.logs home) first (map (λ e. e.part) entries)
  -- each part is its transaction's at that home, and the transactions agree with the region
  pub parts : AllIn (λ e. IsPartOf e.txn home e.part) entries
  pub agree : AllIn (λ e. Agrees s e.txn) entries
  -- unless there is a gap: in the log that results no id stands twice, and it has places for all
  pub distinct : first ≤ length (log_at s.logs home) → Distinct (ids_of (with_entries (log_at s.logs home) first entries))
  pub few : first ≤ length (log_at s.logs home) → AreFew (set s.logs home (with_entries (log_at s.logs home) first entries))

-- each transaction that a region holds is valid for these procedures, in the version of the region's table
abbrev pub HoldsValid : List ProcTree → RegionState → Type 0
HoldsValid procs s = (id : TxnId) (txn : Txn) → held s id ≡ Some txn → IsValid procs s.here.table.version s.regions txn

-- by these procedures, for which all that the region holds is valid, this is what the transaction of an id comes to on the
-- region's table
pub record ComesTo (procs : List ProcTree) (s : RegionState) (id : TxnId) (outcome : Outcome) (effect : Effect) : Type 0 where
  pub holds : HoldsValid procs s
  pub values : (txn : Txn) → held s id ≡ Some txn → (outcome, effect) ≡ one procs txn s.here.table

-- there are such procedures
pub record HasRun (s : RegionState) (id : TxnId) (outcome : Outcome) (effect : Effect) : Type 0 where
  pub procs : List ProcTree
  pub comes : ComesTo procs s id outcome effect

-- what a body moves has a place left for one move more: the moves of a unit are counted by 32 bits
abbrev pub HasPlaceToMove : Table → Body → Type 0
HasPlaceToMove t (Call proc args) = Unit {0}
HasPlaceToMove t (Move key target) = counter_of t key + 1 < 2 ^ 32

-- a region may be asked to execute an id: if it is a move, a place is left for it
abbrev pub CanMove : RegionState → TxnId → Type 0
CanMove s id = (txn : Txn) → held s id ≡ Some txn → HasPlaceToMove s.here.table txn.body
