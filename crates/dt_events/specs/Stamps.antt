-- Stamps: the numbers under which a region keeps its events. They rise, and an event that takes something from another
-- region has a greater stamp than what it takes; so the events of all regions can be listed as one, in the order of
-- stamps. Read next: `Region` of dt_region, for how a region gives them; `Merge` of dt_merge, for that list.
use Rattle.std.specs.Prelude.{◌+◌, ℕ, List, [], ◌∷◌, map}
use Rattle.dt_events.specs.declared.event.Event.{Event}
use Rattle.dt_events.specs.declared.event.Stamped.{Stamped}

-- the events, without their stamps
abbrev pub events_of : List Stamped → List Event
events_of items = map (λ x. x.event) items

-- the stamp of the last of them, or 0 where there is none
abbrev pub last_stamp : List Stamped → ℕ
last_stamp [] = 0
last_stamp (x ∷ []) = x.stamp
last_stamp (x ∷ y ∷ items) = last_stamp (y ∷ items)

-- the events under consecutive stamps, from this one on
abbrev pub stamped_from : ℕ → List Event → List Stamped
stamped_from stamp [] = []
stamped_from stamp (event ∷ events) = record { stamp = stamp; event = event } ∷ stamped_from (stamp + 1) events
