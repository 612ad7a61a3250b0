-- Only proofs need this file: how a region keeps what contracts see of it, and what its type says of its fields. Skip it;
-- read `Region` for what callers see, and `Sound` for what every region keeps.
use Rattle.std.specs.Prelude.{◌≡◌, ◌<◌, ◌≤◌, ◌*◌, ◌^◌, ℕ}
use Rattle.dt_sched.specs.Sched.{Sched}
use Rattle.dt_region.specs.Region.{RegionState, RegionView, sched_of}
use Rattle.dt_region.specs.Sound.{IsSoundRegion}
use Rattle.dt_region.specs.declared.region.Region.TheInside.{Inside}

-- the state that is kept in these fields, where the scheduler is seen so; what is resolved, the scheduler knows
abbrev pub state_in : {S : Type 0} → (S → Sched) → Inside S → RegionState
state_in seen a = record {
  number = a.number;
  regions = a.regions;
  submitted = a.submitted.items;
  foreign = a.foreign.txns;
  logs = a.logs.items;
  here = record {
    asked = a.asked.items;
    taken = a.taken.items;
    inserted = a.inserted.items;
    resolved = (seen a.scheduler).resolved;
    done = a.done.entries;
    table = a.table.state;
  };
}

-- the region that is kept in these fields
abbrev pub region_in : {S : Type 0} → (S → Sched) → Inside S → RegionView
region_in seen a = record { state = state_in seen a; events = a.events.events; heard = a.heard; room = a.room }

-- the region is sound, and its scheduler has what the region inserted, resolved and has done
abbrev pub AreWell : RegionState → Sched → Type 0
AreWell s seen = IsSoundRegion s × (seen ≡ sched_of s.logs s.here)

-- its stores have places for n executions, each of which is one event, one id that is done and at most 17 changes of
-- the table: these many events, ids and changes fit, and as many ids in the scheduler; so the changes are fewer than 2^63
pub record HasStock (room for_events for_done for_changes for_finishes : ℕ) : Type 0 where
  pub events : room ≤ for_events
  pub done : room ≤ for_done
  pub changes : 17 * room ≤ for_changes
  pub few : 17 * room < 2 ^ 63
  pub finishes : room ≤ for_finishes

-- what the type of a region says of its fields, where the scheduler is seen so and has this room
pub record IsWell {S : Type 0} (seen : S → Sched) (finishes : S → ℕ) (a : Inside S) : Type 0 where
  pub well : AreWell (state_in seen a) (seen a.scheduler)
  pub stock : HasStock a.room a.events.spare a.done.spare a.table.spare (finishes a.scheduler)
