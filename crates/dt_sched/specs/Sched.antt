-- A scheduler as its callers see it: what was inserted, resolved and done, and nothing of how it finds its answers. So a
-- plain one, which gathers the graph anew each time, and a quicker one have the same contracts (trait `Scheduler`). What
-- may be executed and resolved is stated in Decide.antt, over these three things alone. Read next: src/scheduler.rt, the
-- trait.
use Rattle.std.specs.Prelude.{◌≡◌, ◌<◌, ℕ, List, [], ◌∷◌, ◌++◌, Option, Some, None, length, sum_by, set, replicate}
use Rattle.dt_lists.specs.Lists.{AllIn, Has}
use Rattle.dt_access.specs.declared.TxnId.{TxnId}
use Rattle.dt_access.specs.declared.Part.{Part}
use Rattle.dt_sched.specs.Views.{View, HasPart, log_at}
use Rattle.dt_sched.specs.Decide.{IsExecutable, IsResolvable}

-- what a scheduler is seen as: the parts that were inserted of each log, the classes that were resolved and the ids
-- that are done, each list in the order in which it grew
pub record Sched : Type 0 where
  pub logs : View
  pub resolved : List (List TxnId)
  pub done : List TxnId

-- nothing was inserted, resolved or done yet: one empty log for each region
abbrev pub nothing_yet : ℕ → Sched
nothing_yet regions = record { logs = replicate regions []; resolved = []; done = [] }

-- how many parts the view has in all its logs together
abbrev pub parts_in : View → ℕ
parts_in view = sum_by length view

-- the part may be inserted next
pub record CanInsert (view : View) (part : Part) : Type 0 where
  -- its home is among its homes
  pub homed : Has part.homes part.home
  -- each of them has a log
  pub within : AllIn (λ home. home < length view) part.homes
  -- its id isn't in the log of its home yet
  pub fresh : ¬ (HasPart (log_at view part.home) part.id)
  -- a 32-bit count of all parts has a place left
  pub few : parts_in view < 4294967295
  -- all parts of its id name the same homes
  pub alike : AllIn (AllIn (λ p. p.id ≡ part.id → p.homes ≡ part.homes)) view
  -- and have the same rank
  pub ranked : AllIn (AllIn (λ p. p.id ≡ part.id → p.rank ≡ part.rank)) view

-- the view with the part at the back of the log of its home
abbrev pub with_part : View → Part → View
with_part view part = set view part.home (log_at view part.home ++ part ∷ [])

-- a scheduler after a part was inserted
abbrev pub after_insert : Sched → Part → Sched
after_insert s part = record s { logs = with_part s.logs part }

-- a scheduler after a class was resolved
abbrev pub after_resolve : Sched → List TxnId → Sched
after_resolve s ids = record s { resolved = s.resolved ++ ids ∷ [] }

-- a scheduler after an id was done
abbrev pub after_finish : Sched → TxnId → Sched
after_finish s id = record s { done = s.done ++ id ∷ [] }

-- the id may be executed now, by what was inserted, resolved and done
abbrev pub CanExecute : Sched → TxnId → Type 0
CanExecute s id = IsExecutable s.logs s.resolved s.done id

-- the ids are a class that may be resolved now
abbrev pub CanResolve : Sched → List TxnId → Type 0
CanResolve s ids = IsResolvable s.logs s.resolved s.done ids

-- a choice of what to execute next, beside what is busy: an id that may be executed and isn't busy, or none, where
-- each one that may be executed is busy
abbrev pub IsNextReady : Sched → List TxnId → Option TxnId → Type 0
IsNextReady s busy None = (id : TxnId) → CanExecute s id → Has busy id
IsNextReady s busy (Some id) = CanExecute s id × ¬ (Has busy id)

-- a choice of what to resolve next: a class that may be resolved, or none, where there is no such class
abbrev pub IsNextClass : Sched → Option (List TxnId) → Type 0
IsNextClass s None = (ids : List TxnId) → ¬ (CanResolve s ids)
IsNextClass s (Some ids) = CanResolve s ids
