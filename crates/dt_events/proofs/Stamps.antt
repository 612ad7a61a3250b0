-- The stamp of the last of some events.
use Rattle.std.proofs.Common.{◌≡◌, List, [], ◌∷◌, ◌++◌, refl}
use Rattle.dt_events.specs.declared.event.Stamped.{Stamped}
use Rattle.dt_events.specs.Stamps.{last_stamp}

-- the event that was added last is the last one
pub last_of_more : (items : List Stamped) (x : Stamped) → last_stamp (items ++ x ∷ []) ≡ x.stamp
last_of_more [] x = refl
last_of_more (y ∷ []) x = refl
last_of_more (y ∷ z ∷ items) x = last_of_more (z ∷ items) x
