-- Why rules 4 to 6 keep a region sound. They change only what it inserted, resolved and executed, and its table: so of what every
-- region keeps, four things are to be shown of the new ones, and all else stays. Read next: `Rule4Insert`, `Rule5Resolve` and
-- `Rule6Execute`, which show them.
use Rattle.std.proofs.Common.{◌≡◌, ◌≤◌, ℕ, List, length, map}
use Rattle.std.specs.Prelude.{slice_index}
use Rattle.dt_access.specs.declared.TxnId.{TxnId}
use Rattle.dt_sched.specs.Views.{log_at}
use Rattle.dt_sched.specs.Decide.{IsSound}
use Rattle.dt_table.specs.Table.{Table}
use Rattle.dt_txn.specs.declared.outcome.Outcome.{Outcome}
use Rattle.dt_txn.specs.Replica.{fronts}
use Rattle.dt_region.specs.Region.{RegionState}
use Rattle.dt_region.specs.Conditions.{IsTableFor}
use Rattle.dt_region.specs.Sound.{IsSoundRegion}

pub stays_sound : (s : RegionState) → IsSoundRegion s → (lengths : List ℕ) (resolved : List (List TxnId)) (done : List (TxnId × Outcome)) (table : Table)
    → length lengths ≡ s.regions → ((home : ℕ) → slice_index lengths home ≤ length (log_at s.logs home)) → IsTableFor s.regions table → IsSound (fronts lengths s.logs) resolved (map (λ d. d.0) done)
    → IsSoundRegion (record s { here = record s.here { inserted = lengths; resolved = resolved; done = done; table = table } })
stays_sound s sound lengths resolved done table many within for_regions decided = record {
  number = sound.number;
  regions = sound.regions;
  asked = sound.asked;
  taken = sound.taken;
  logs = sound.logs;
  inserted = many;
  counted = sound.counted;
  foreign = sound.foreign;
  submitted_homes = sound.submitted_homes;
  foreign_homes = sound.foreign_homes;
  once = sound.once;
  parts = sound.parts;
  few = sound.few;
  taken_few = sound.taken_few;
  inserted_few = within;
  table = for_regions;
  decided = decided;
}
