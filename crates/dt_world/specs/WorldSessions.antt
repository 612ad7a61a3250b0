-- The sessions of a world. Each region keeps its own (`Sessions` of the theory of sessions), and where a session stands
-- is read off what its region keeps; so the places of a world, in the order of the workload, are kept nowhere else. One
-- learns here what the regions keep at first, and how they are put together. What relates them to a world is
-- `SessionsStandIn`. Read next: `WorldInner`, for what a world keeps of them, if you change its code.
use Rattle.std.specs.Prelude.{List, [], map}
use Rattle.std.specs.List.{range_with_len}
use Rattle.dt_cluster.specs.declared.Cluster.{Cluster}
use Rattle.dt_workload.specs.declared.Session.{Session}
use Rattle.dt_workload.specs.declared.Workload.{Workload}
use Rattle.dt_session.specs.Sessions.{SessionsView, all_idle}
use Rattle.dt_session.specs.World.{Place}
use Rattle.dt_site.specs.SessionsStandIn.{places_of}

-- the workload of a world, and the sessions that each region keeps, by the region's number
pub record WorldSessions : Type 0 where
  pub workload : Workload
  pub by_region : List SessionsView

-- where each session of the workload stands, in its order
abbrev pub places_in : WorldSessions → List Place
places_in s = places_of s.workload s.by_region

-- the sessions of all regions before their first calls
abbrev pub opening_sessions : Cluster → Workload → List SessionsView
opening_sessions cluster workload = map (λ region. all_idle cluster.tries region workload) (range_with_len 0 cluster.regions)

-- stands in where there is no such thing: a session
abbrev pub no_session : Session
no_session = record { name = []; region = 0; calls = [] }
