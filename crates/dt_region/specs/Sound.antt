-- What every region keeps true, through all its calls: its type says it, and each call ensures it. So a reader of a
-- region may rely on it without knowing which calls were made. The last field is what the laws of the scheduler ask for
-- (`IsSound` of `Decide`, in the crate of the scheduler). Read next: src/region.rt, the calls.
use Rattle.std.specs.Prelude.{◌≡◌, ◌≢◌, ◌<◌, ◌≤◌, ◌+◌, ℕ, List, [], ◌∷◌, length, slice_index, Some}
use Rattle.dt_lists.specs.Lists.{AllIn, Distinct}
use Rattle.dt_access.specs.declared.Part.{Part}
use Rattle.dt_sched.specs.Views.{ids_of, log_at}
use Rattle.dt_sched.specs.Decide.{IsSound}
use Rattle.dt_txn.specs.declared.txn.Txn.{Txn}
use Rattle.dt_txn.specs.Replica.{view_of, done_ids}
use Rattle.dt_region.specs.Region.{RegionState, held}
use Rattle.dt_region.specs.Conditions.{IsTableFor, IsPartOf, HasHomesIn, AreFew}

-- the ids of the transactions are counted upwards from `seq`, in this region
abbrev pub AreCounted : ℕ → ℕ → List Txn → Type 0
AreCounted region seq [] = Unit {0}
AreCounted region seq (txn ∷ txns) = (txn.id ≡ record { seq = seq; region = region }) × AreCounted region (seq + 1) txns

-- the part is that of the held transaction of its id, at one of its homes
abbrev pub IsHeldPart : RegionState → ℕ → Part → Type 0
IsHeldPart s home part = (txn : Txn) × (held s part.id ≡ Some txn) × IsPartOf txn home part

-- what every region keeps
pub record IsSoundRegion (s : RegionState) : Type 0 where
  pub number : s.number < s.regions
  pub regions : s.regions ≤ 8
  -- there is one list, one number or one log for each region
  pub asked : length s.here.asked ≡ s.regions
  pub taken : length s.here.taken ≡ s.regions
  pub logs : length s.logs ≡ s.regions
  pub inserted : length s.here.inserted ≡ s.regions
  -- its own ids are counted from 1, and all others that it holds are of other regions
  pub counted : AreCounted s.number 1 s.submitted
  pub foreign : AllIn (λ txn. txn.id.region ≢ s.number) s.foreign
  -- the homes of what it holds are regions
  pub submitted_homes : AllIn (HasHomesIn s.regions) s.submitted
  pub foreign_homes : AllIn (HasHomesIn s.regions) s.foreign
  -- in each log every id stands once, and every part is that of the held transaction of its id
  pub once : (home : ℕ) → Distinct (ids_of (log_at s.logs home))
  pub parts : (home : ℕ) → AllIn (IsHeldPart s home) (log_at s.logs home)
  pub few : AreFew s.logs
  -- what it took from others stands in its own log, and it inserts what it received
  pub taken_few : (source : ℕ) → slice_index s.here.taken source ≤ length (log_at s.logs s.number)
  pub inserted_few : (home : ℕ) → slice_index s.here.inserted home ≤ length (log_at s.logs home)
  pub table : IsTableFor s.regions s.here.table
  -- what it inserted is well-formed, and what it resolved and has done it could resolve and do, in this order
  pub decided : IsSound (view_of s.logs s.here) s.here.resolved (done_ids s.here)
