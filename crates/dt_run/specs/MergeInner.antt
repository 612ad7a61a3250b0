-- Scaffolding: which of the lists of kept events a merge takes its next event from: the one whose first event has the least
-- stamp, and of several the one of the least region. Read `Run` for what callers see.
use Rattle.std.specs.Prelude.{◌≡◌, ◌≢◌, ◌<◌, ◌⊎◌, ℕ, List, [], ◌∷◌, ◌++◌, length, Option, None, Some}
use Rattle.dt_events.specs.declared.Event.{Event}
use Rattle.dt_events.specs.declared.Stamped.{Stamped}
use Rattle.dt_events.specs.Stamps.{events_of}
use Rattle.dt_merge.specs.Merge.{AreKept, IsMerge, kept_at}

-- of the first n lists, this is the first whose first item, which is this one, has the least stamp
pub record IsLeastOf (kept : List (List Stamped)) (below region : ℕ) (stamp : ℕ) : Type 0 where
  pub within : region < below
  pub first : Stamped
  pub rest : List Stamped
  pub is : kept_at kept region ≡ first ∷ rest
  pub stamp_is : first.stamp ≡ stamp
  pub least : (other : ℕ) (y : Stamped) (ys : List Stamped) → other < below → other ≢ region → kept_at kept other ≡ y ∷ ys
      → (stamp < y.stamp) ⊎ ((stamp ≡ y.stamp) × (region < other))

-- what was found among the first n lists; none exactly if all of these are empty
abbrev pub IsFoundIn : List (List Stamped) → ℕ → Option (ℕ × ℕ) → Type 0
IsFoundIn kept below None = (region : ℕ) → region < below → kept_at kept region ≡ []
IsFoundIn kept below (Some (region, stamp)) = IsLeastOf kept below region stamp

-- the same of all lists
abbrev pub IsLeast : List (List Stamped) → Option ℕ → Type 0
IsLeast kept None = (region : ℕ) → kept_at kept region ≡ []
IsLeast kept (Some region) = (stamp : ℕ) × IsLeastOf kept (length kept) region stamp

-- these events are taken off the fronts of the lists in the order of a merge, and these lists are left
pub record IsMerging (kept left : List (List Stamped)) (events : List Event) : Type 0 where
  pub made : List Stamped
  pub events_are : events ≡ events_of made
  pub still : AreKept left
  pub goes : (merged : List Stamped) → IsMerge left merged → IsMerge kept (made ++ merged)
