-- Flags of lanes. Of each granule a flag tells whether something may wait to take it whole: it may be up where nothing waits, but
-- it is up wherever something does. So where it is down, nobody has to look at the lane. Read next: `KeptInner`.
use Rattle.std.specs.Prelude.{◌≡◌, ◌≢◌, ℕ, Bool, false, List, [], get_or}
use Rattle.dt_queue.specs.declared.mark.Mark.{Mark}

-- a lane whose flag is down has no mark
abbrev pub AreFlagsUp : List (List Mark) → List Bool → Type 0
AreFlagsUp lanes flags = (place : ℕ) → get_or flags place false ≡ false → get_or lanes place [] ≡ []

-- all flags are as before
abbrev pub SameFlags : List Bool → List Bool → Type 0
SameFlags old new = (place : ℕ) → get_or new place false ≡ get_or old place false

-- one flag was set, and all others are as before
pub record SetsFlag (old : List Bool) (place : ℕ) (flag : Bool) (new : List Bool) : Type 0 where
  pub changed : get_or new place false ≡ flag
  pub others : (other : ℕ) → other ≢ place → get_or new other false ≡ get_or old other false
