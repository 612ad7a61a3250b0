-- The events of all regions as one list. Each region keeps its events with stamps, which rise; and an event that takes
-- something from another region has a greater stamp than what it takes. One learns here what the merge of what regions keep
-- is: all of it, in ascending order of stamps, and of regions where stamps are equal (`IsMerge`). It is to be read as one
-- run, though the events were made side by side. How they came about is described by a chronicle (`IsChronicle`): one list in the
-- order in which they were made. Read next: src/laws.rt, that the merge is a legal list, which leads to the same world.
use Rattle.std.specs.Prelude.{◌≡◌, ◌<◌, ◌==◌, ◌⊎◌, ◌↔◌, ℕ, List, [], ◌++◌, filter, get_or, Some}
use Rattle.dt_lists.specs.Lists.{AllIn, EachThen, Has}
use Rattle.dt_events.specs.declared.Stamped.{Stamped}
use Rattle.dt_events.specs.Events.{region_of}
use Rattle.dt_events.specs.Stamps.{events_of}
use Rattle.dt_cluster.specs.declared.Cluster.{Cluster}
use Rattle.dt_workload.specs.declared.Workload.{Workload}
use Rattle.dt_session.specs.World.{opening_world}
use Rattle.dt_session.specs.Run.{AreLegal, world_after}
use Rattle.dt_session.specs.Eager.{AllChange}
use Rattle.dt_merge.specs.OwnPart.{source_of, IsSupplied}

-- the region of a stamped event
abbrev pub region_at : Stamped → ℕ
region_at x = region_of x.event

-- of stamped events, those of a region
abbrev pub those_at : ℕ → List Stamped → List Stamped
those_at region items = filter (λ x. region_at x == region) items

-- what a region keeps; `kept` has a list for each region
abbrev pub kept_at : List (List Stamped) → ℕ → List Stamped
kept_at kept region = get_or kept region []

-- the one stamp is below the other
abbrev pub HasLowerStamp : Stamped → Stamped → Type 0
HasLowerStamp x y = x.stamp < y.stamp

-- the order of a merge: by stamps, and by regions where these are equal
abbrev pub ComesBefore : Stamped → Stamped → Type 0
ComesBefore x y = (x.stamp < y.stamp) ⊎ ((x.stamp ≡ y.stamp) × (region_at x < region_at y))

-- each region keeps events of its own, whose stamps rise
abbrev pub AreKept : List (List Stamped) → Type 0
AreKept kept = (region : ℕ) → AllIn (λ x. region_at x ≡ region) (kept_at kept region) × EachThen HasLowerStamp (kept_at kept region)

-- the list has all that regions keep, and nothing else, in the order of a merge
pub record IsMerge (kept : List (List Stamped)) (merged : List Stamped) : Type 0 where
  pub ascending : EachThen ComesBefore merged
  pub members : (x : Stamped) → Has merged x ↔ Has (kept_at kept (region_at x)) x

-- each of these events, if it is of region q, has a stamp above s
abbrev pub AreLater : ℕ → ℕ → List Stamped → Type 0
AreLater q s items = AllIn (λ x. region_at x ≡ q → s < x.stamp) items

-- the cause of an event that takes something from region q: a stamp below its own, such that what it takes is there as soon
-- as q made its events up to that stamp
pub record IsFed (cluster : Cluster) (workload : Workload) (all : List Stamped) (x : Stamped) (q : ℕ) : Type 0 where
  pub stamp : ℕ
  pub lower : stamp < x.stamp
  pub supplied : (front rest : List Stamped) → all ≡ front ++ rest → AreLater q stamp rest → IsSupplied (world_after cluster workload (events_of front)) x.event

-- the list has the events that regions keep, in the order in which they were made: so they were legal and changed something,
-- those of a region are what it keeps, and each that takes something from another region has its cause
pub record IsChronicle (cluster : Cluster) (workload : Workload) (all : List Stamped) (kept : List (List Stamped)) : Type 0 where
  pub legal : AreLegal cluster workload (events_of all)
  pub changing : AllChange cluster workload (opening_world cluster workload) (events_of all)
  pub lists : (region : ℕ) → kept_at kept region ≡ those_at region all
  pub rising : (region : ℕ) → EachThen HasLowerStamp (kept_at kept region)
  pub caused : AllIn (λ x. (q : ℕ) → source_of x.event ≡ Some q → IsFed cluster workload all x q) all
