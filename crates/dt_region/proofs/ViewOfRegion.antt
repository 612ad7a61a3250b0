-- How a region that holds this state, these events, what it heard and this scheduler is seen by contracts: a call starts
-- from here. And what it keeps after one event more.
use Rattle.std.proofs.Common.{◌≡◌, ◌+◌, ℕ, List, [], ◌∷◌, ◌++◌, max, sym, ap, ◌∙◌}
use Rattle.dt_events.specs.declared.Event.{Event}
use Rattle.dt_events.specs.declared.Stamped.{Stamped}
use Rattle.dt_events.specs.Stamps.{last_stamp}
use Rattle.dt_sched.specs.Sched.{Sched}
use Rattle.dt_region.specs.Region.{RegionState, RegionView, latest_stamp}
use Rattle.dt_region.specs.RegionInner.{AreWell}

pub record IsSeenAs (s : RegionState) (events : List Stamped) (heard room : ℕ) (seen : Sched) (r : RegionView) : Type 0 where
  pub view : record { state = s; events = events; heard = heard; room = room } ≡ r
  pub well : AreWell s seen

pub seen_as : {s : RegionState} {events : List Stamped} {heard room : ℕ} {seen : Sched} {r : RegionView} → record { state = s; events = events; heard = heard; room = room } ≡ r → AreWell s seen
    → IsSeenAs s events heard room seen r
seen_as view well = record { view = view; well = well }

-- an event under a stamp
abbrev pub under : ℕ → Event → Stamped
under stamp event = record { stamp = stamp; event = event }

-- an event that is kept under the stamp which the region gives next
pub kept_under : {s : RegionState} {events : List Stamped} {heard room : ℕ} {seen : Sched} {r : RegionView} → IsSeenAs s events heard room seen r
    → (event : Event) (stamp : ℕ) (after : List Stamped) → stamp ≡ latest_stamp r + 1 → after ≡ events ++ under stamp event ∷ []
    → after ≡ events ++ under (max (last_stamp events) heard + 1) event ∷ []
kept_under {events = events} stands event stamp after is kept = kept ∙ ap (λ n. events ++ under n event ∷ []) (is ∙ ap (λ x. latest_stamp x + 1) (sym stands.view))
