-- When sessions are those of a region in a world. A region keeps its own account of its sessions: it finds them by their
-- names, and knows the number of the attempt that each waits for. One learns here that this account agrees with a world
-- of all regions (`SessionsStandIn`). Then what it allows of a session is what rules 1 and 7 allow in the world. From the
-- accounts of all regions one reads where each session of the workload stands (`places_of`). Read next: `WorldSessions`
-- of dt_world, the sessions of all regions together.
use Rattle.std.specs.Prelude.{◌≡◌, ℕ, List, [], map, get_or, Option, Some, None, option_map}
use Rattle.dt_access.specs.Clash.{Bytes}
use Rattle.dt_cluster.specs.declared.Cluster.{Cluster}
use Rattle.dt_workload.specs.declared.Session.{Session}
use Rattle.dt_workload.specs.declared.Workload.{Workload}
use Rattle.dt_session.specs.declared.sessions.Seat.{Seat}
use Rattle.dt_session.specs.declared.sessions.Waiting.{Waiting}
use Rattle.dt_session.specs.Sessions.{SessionsView, seat_of}
use Rattle.dt_session.specs.World.{World, Place, attempt_of, idle_place, session_at}

-- what a region keeps of a session that stands at this place in a world
abbrev pub seat_in : World → Session × Place → Seat
seat_in w (session, place) = record {
  calls = session.calls;
  answered = place.answered;
  waits = option_map (λ id. record { id = id; attempt = attempt_of w id }) place.waits;
}

-- the sessions are those of the region in the world
pub record SessionsStandIn (cluster : Cluster) (workload : Workload) (w : World) (region : ℕ) (s : SessionsView) : Type 0 where
  -- a call may be tried as often as the cluster allows
  pub tries : s.tries ≡ cluster.tries
  -- under each name it has the region's session, with where that stands, or none
  pub seats : (name : Bytes) → seat_of s name ≡ option_map (seat_in w) (session_at workload.sessions w.places region name)

-- where a session stands, by what its region keeps
abbrev pub place_in : Option Seat → Place
place_in None = idle_place
place_in (Some seat) = record { answered = seat.answered; waits = option_map (λ (w : Waiting). w.id) seat.waits }

-- stands in where there is no such thing: the sessions of a region
abbrev pub no_sessions : SessionsView
no_sessions = record { tries = 0; seats = [] }

-- where each session of a workload stands, by what the regions keep, each by its number
abbrev pub places_of : Workload → List SessionsView → List Place
places_of workload all = map (λ session. place_in (seat_of (get_or all session.region no_sessions) session.name)) workload.sessions
