-- The stamps that a region knows of, and the events that it keeps, after one event more.
use Rattle.std.proofs.Common.{◌≡◌, ◌≤◌, ◌-◌, ◌+◌, ℕ, zero, suc, List, [], ◌∷◌, ◌++◌, length, max, Some, slice_get, ap, ◌∙◌, arith}
use Rattle.std.proofs.lemmas.List.{map-append}
use Rattle.std.proofs.Math.Nat.{le-max_right, max-eq_left}
use Rattle.dt_events.specs.declared.Event.{Event}
use Rattle.dt_events.specs.declared.Stamped.{Stamped}
use Rattle.dt_events.specs.Stamps.{events_of, last_stamp}
use Rattle.dt_events.proofs.Callers.{last_of_more}
use Rattle.dt_region.specs.Region.{RegionState, RegionView, latest_stamp}
use Rattle.dt_region.specs.Rules.{with_event}
use Rattle.dt_region.proofs.ViewOfRegion.{under}

-- the stamp of the last event, if there is one

last_at : (items : List Stamped) (n : ℕ) (x : Stamped) → n + 1 ≡ length items → slice_get items n ≡ Some x → last_stamp items ≡ x.stamp
last_at [] n x many e = cc
last_at (y ∷ []) zero x many e = let same : y ≡ x = cc in ap (λ z. z.stamp) same
last_at (y ∷ []) (suc n) x many e = cc
last_at (y ∷ z ∷ items) zero x many e = absurd (omega (arith, many))
last_at (y ∷ z ∷ items) (suc n) x many e = let later : n + 1 ≡ length (z ∷ items) = omega (arith, many) in last_at (z ∷ items) n x later e

pub last_some : (items : List Stamped) (x : Stamped) → slice_get items (length items - 1) ≡ Some x → last_stamp items ≡ x.stamp
last_some [] x e = cc
last_some (y ∷ items) x e = last_at (y ∷ items) (length (y ∷ items) - 1) x (omega arith) e

pub latest_more : (r : RegionView) (s : RegionState) (event : Event) → latest_stamp (with_event r s event) ≡ latest_stamp r + 1
latest_more r s event =
    let known : r.heard ≤ latest_stamp r = le-max_right (last_stamp r.events) r.heard in
    let above : r.heard ≤ latest_stamp r + 1 = omega (arith, known) in
    ap (λ n. max n r.heard) (last_of_more r.events (under (latest_stamp r + 1) event)) ∙ max-eq_left above

pub kept_more : (r : RegionView) (s : RegionState) (event : Event) → events_of (with_event r s event).events ≡ events_of r.events ++ event ∷ []
kept_more r s event = map-append (λ x. x.event) r.events (under (latest_stamp r + 1) event ∷ [])
