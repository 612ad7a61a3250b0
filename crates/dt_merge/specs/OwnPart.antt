-- What is one region's own in a world: its node, and where its sessions stand. One learns here what of a world an event
-- rests on besides the own part of its region: nothing, or what it takes from one other region (`source_of`), if that is
-- there (`IsSupplied`). Whatever regions submitted and placed stays, so one world can be below another (`HaveGrown`). Read
-- next: src/laws.rt, for what follows.
use Rattle.std.specs.Prelude.{◌<◌, ◌≤◌, ◌==◌, ℕ, List, [], ◌∷◌, length, Option, Some, None, if◌then◌else◌}
use Rattle.dt_lists.specs.Lists.{IsFront}
use Rattle.dt_events.specs.declared.Event.{Event}
use Rattle.dt_events.specs.declared.Event.TheVariants.{Append, Deliver}
use Rattle.dt_workload.specs.declared.Session.{Session}
use Rattle.dt_workload.specs.declared.Workload.{Workload}
use Rattle.dt_session.specs.World.{World, Node, Place, node_at, asked_of, log_of}

-- what is one region's own
pub record Own : Type 0 where
  pub node : Node
  -- where its sessions stand, in the order of the workload
  pub places : List Place

-- the places of the sessions of a region
abbrev pub places_at : ℕ → List Session → List Place → List Place
places_at region [] places = []
places_at region (s ∷ sessions) [] = []
places_at region (s ∷ sessions) (p ∷ places) = if s.region == region then p ∷ places_at region sessions places else places_at region sessions places

-- what is a region's own in a world
abbrev pub own : Workload → World → ℕ → Own
own workload w region = record { node = node_at w region; places = places_at region workload.sessions w.places }

-- a node has grown to another: it submitted no less, and its log goes on
pub record HasGrown (before now : Node) : Type 0 where
  pub submitted : IsFront before.submitted now.submitted
  pub log : IsFront before.log now.log

-- all that regions submitted and placed in the one world stands in the other
abbrev pub HaveGrown : World → World → Type 0
HaveGrown w v = (region : ℕ) → HasGrown (node_at w region) (node_at v region)

-- the other region that an event takes something from, if it does: requests, or entries of its log
abbrev pub source_of : Event → Option ℕ
source_of (Append home source number) = if home == source then None else Some source
source_of (Deliver region home first last) = if region == home then None else Some home
source_of event = None

-- what an event takes is there
abbrev pub IsSupplied : World → Event → Type 0
-- the source asked the home for more parts than that
IsSupplied w (Append home source number) = number < length (asked_of w source home)
-- the home's log reaches that far
IsSupplied w (Deliver region home first last) = last ≤ length (log_of w home)
IsSupplied w event = Unit {0}
