-- Only proofs need this file, and the private calls of `Alone`: what one step of a round is, and how many there can be.
-- Read `Rounds` for what a round is.
use Rattle.std.specs.Prelude.{◌≡◌, ◌+◌, ◌-◌, ◌*◌, ℕ, List, length, sum, Bool, true, false, Result, Ok, Err}
use Rattle.dt_text.specs.declared.NoMemory.{NoMemory}
use Rattle.dt_events.specs.declared.Event.{Event}
use Rattle.dt_events.specs.Events.{region_of}
use Rattle.dt_sched.specs.Sched.{parts_in}
use Rattle.dt_proc.specs.Tree.{ProcTree}
use Rattle.dt_txn.specs.Replica.{HasInsertedAll, IsDrained, Replica}
use Rattle.dt_region.specs.Region.{RegionState, RegionView}
use Rattle.dt_region.specs.Rules.{MakesStep}

-- how many insertions, resolutions and executions a region has made
abbrev pub steps_of : Replica → ℕ
steps_of here = sum here.inserted + length here.resolved + length here.done

-- how many more it can make at most: each part in its logs is inserted once, and each transaction, of which a part is there,
-- is done once and in one class at most
abbrev pub steps_left : RegionState → ℕ
steps_left s = 3 * parts_in s.logs - steps_of s.here

-- by one step of its own the first region has become the second
pub record IsOwnStep (procs : List ProcTree) (before after : RegionView) : Type 0 where
  pub event : Event
  pub mine : region_of event ≡ before.state.number
  pub makes : MakesStep procs before event (Ok true) after

-- how an attempt at an insertion ends: one was made, or there was none to make
abbrev pub InsertsSome : List ProcTree → RegionView → Result Bool NoMemory → RegionView → Type 0
InsertsSome procs r (Ok true) after = IsOwnStep procs r after
InsertsSome procs r (Ok false) after = HasInsertedAll r.state.logs r.state.here × (after ≡ r)
InsertsSome procs r (Err e) after = after ≡ r

-- how an attempt at a step ends: one was made, or there was none to make
abbrev pub StepsOn : List ProcTree → RegionView → Result Bool NoMemory → RegionView → Type 0
StepsOn procs r (Ok true) after = IsOwnStep procs r after
StepsOn procs r (Ok false) after = IsDrained r.state.logs r.state.here × (after ≡ r)
StepsOn procs r (Err e) after = after ≡ r
