-- A region behind its lock, in one round: what holds of it whenever the lock is free, whoever had it before (`IsHeld`), and
-- what each step under the lock is. An insertion, a resolution and a commit are each one event of the region; a claim is
-- no event. Of claims that are running the lock keeps that each may run now, that it saw what the rows still are, that no two
-- of them touch each other, and that there is room to commit them all: so a commit is never refused, and needs no memory.
-- Read `Claims` before. Read next: src/held.rt, the calls.
use Rattle.std.specs.Prelude.{◌≡◌, ◌≢◌, ◌⊎◌, ◌≤◌, ◌+◌, Bool, true, false, not, List, [], ◌∷◌, ◌++◌, map, filter, length, max, Option, Some, None, Result, Ok, Err}
use Rattle.dt_lists.specs.Lists.{AllIn, AnyIn, EachThen, Has}
use Rattle.dt_text.specs.declared.NoMemory.{NoMemory}
use Rattle.dt_access.specs.Clash.{Bytes, clash}
use Rattle.dt_access.specs.Ids.{same_id}
use Rattle.dt_access.specs.declared.Mode.{Mode}
use Rattle.dt_access.specs.declared.TxnId.{TxnId}
use Rattle.dt_events.specs.declared.Event.TheVariants.{Resolve}
use Rattle.dt_sched.specs.Sched.{CanExecute, CanResolve}
use Rattle.dt_proc.specs.Tree.{ProcTree}
use Rattle.dt_table.specs.Table.{Table}
use Rattle.dt_txn.specs.declared.txn.Txn.{Txn}
use Rattle.dt_txn.specs.declared.outcome.Seen.{Seen}
use Rattle.dt_txn.specs.Execution.{see}
use Rattle.dt_txn.specs.Transaction.{used_of}
use Rattle.dt_region.specs.Region.{RegionState, RegionView, held, sched_of}
use Rattle.dt_region.specs.Rules.{MakesStep, after_finishing}
use Rattle.dt_region.specs.Underway.{IsUnderway}
use Rattle.dt_lock.specs.declared.running.Running.{Running}
use Rattle.dt_lock.specs.Claims.{ClaimView, FinishedView}

-- a region behind its lock, as contracts see it: the region, and the claims that are running
pub record HeldView : Type 0 where
  pub region : RegionView
  pub running : List Running

-- how a claim is noted while it is running
abbrev pub as_running : ClaimView → Running
as_running claim = record { id = claim.txn.id; seen = claim.seen }

-- the uses of a transaction, if it is there
abbrev pub uses_held : Option Txn → List (Bytes × Mode)
uses_held None = []
uses_held (Some txn) = map used_of txn.access

-- what a transaction sees in a table, if it is there
abbrev pub sight_in : Option Txn → Table → List Seen
sight_in None table = []
sight_in (Some txn) table = see txn table

-- the access lists of two transactions that a region holds under these ids clash
abbrev pub IdsClash : RegionState → TxnId → TxnId → Type 0
IdsClash s a b = clash (uses_held (held s a)) (uses_held (held s b)) ≡ true

-- two claims have different ids, and the access lists of their transactions don't clash
abbrev pub AreDisjoint : RegionState → Running → Running → Type 0
AreDisjoint s a b = (a.id ≢ b.id) × ¬ (IdsClash s a.id b.id)

-- an id is running, or clashes with a running claim
abbrev pub IsBusy : RegionState → List Running → TxnId → Type 0
IsBusy s running id = AnyIn (λ r. (r.id ≡ id) ⊎ IdsClash s r.id id) running

-- what holds whenever the lock is free, in a round that began with the region `before`, by these procedures
pub record IsHeld (procs : List ProcTree) (before : RegionView) (h : HeldView) : Type 0 where
  -- the region has gone on from `before` by legal steps of its own
  pub underway : IsUnderway procs before h.region
  -- what is running may be executed now
  pub executable : AllIn (λ r. CanExecute (sched_of h.region.state.logs h.region.state.here) r.id) h.running
  -- and saw what it would see now
  pub rows : AllIn (λ r. r.seen ≡ sight_in (held before.state r.id) h.region.state.here.table) h.running
  -- no two that are running touch each other
  pub apart : EachThen (AreDisjoint before.state) h.running
  -- there is room to commit all of them
  pub room : length h.running ≤ h.region.room

-- the claims that are running without those of an id
abbrev pub without_claim : TxnId → List Running → List Running
without_claim id running = filter (λ r. not (same_id r.id id)) running

-- From here on: how each step under the lock ends. After `NoMemory` nothing has changed.

-- a resolution: of some resolvable class, or of none where there is no such class
abbrev pub ResolvesSome : RegionView → Result (Option (List TxnId)) NoMemory → RegionView → Type 0
ResolvesSome r (Ok (Some ids)) after = MakesStep [] r (Resolve r.state.number ids) (Ok true) after
ResolvesSome r (Ok None) after = ((ids : List TxnId) → ¬ (CanResolve (sched_of r.state.logs r.state.here) ids)) × (after ≡ r)
ResolvesSome r (Err e) after = after ≡ r

-- some id that is executable and isn't busy, or none, where each that is executable is busy
abbrev pub IsNextFree : RegionState → HeldView → Option TxnId → Type 0
IsNextFree before h None = (id : TxnId) → CanExecute (sched_of h.region.state.logs h.region.state.here) id → IsBusy before h.running id
IsNextFree before h (Some id) = CanExecute (sched_of h.region.state.logs h.region.state.here) id × ¬ (IsBusy before h.running id)

-- a claim is noted as running, with what its transaction sees now, and there is room for one commit more
pub record IsClaimed (h : HeldView) (claim : ClaimView) (after : HeldView) : Type 0 where
  pub seen : claim.seen ≡ see claim.txn h.region.state.here.table
  pub is : after ≡ record { region = record h.region { room = max h.region.room (length h.running + 1) }; running = h.running ++ as_running claim ∷ [] }

-- a claim of some transaction that is executable and isn't busy; or of none, where there is none
abbrev pub ClaimsSome : RegionState → HeldView → Result (Option ClaimView) NoMemory → HeldView → Type 0
ClaimsSome before h (Ok (Some claim)) after = IsNextFree before h (Some claim.txn.id) × IsClaimed h claim after
ClaimsSome before h (Ok None) after = IsNextFree before h None × (after ≡ h)
ClaimsSome before h (Err e) after = after ≡ h

-- a commit: true exactly where a running claim equals that of what is finished; then it is running no more, and the region
-- has made the one event of its execution
abbrev pub Commits : List ProcTree → HeldView → FinishedView → Bool → HeldView → Type 0
Commits procs h f true after =
    Has h.running (as_running f.claim)
    × (after ≡ record { region = after_finishing procs h.region f.claim.txn.id; running = without_claim f.claim.txn.id h.running })
Commits procs h f false after = ¬ (Has h.running (as_running f.claim)) × (after ≡ h)

-- a claim is given back: an equal one that is running is taken off
pub record GivesBack (h : HeldView) (claim : ClaimView) (after : HeldView) : Type 0 where
  pub taken : Has h.running (as_running claim) → after ≡ record h { running = without_claim claim.txn.id h.running }
  pub other : ¬ (Has h.running (as_running claim)) → after ≡ h
