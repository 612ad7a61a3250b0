-- Lists of events that waste nothing. One learns here what an eager list is: each event changes the world, and each
-- region begins by submitting the first call of each of its sessions, in the order of their names. A cluster that runs by
-- itself makes such a list. So it cannot avoid deadlocks by running one call at a time. What is left undone at the end does
-- not matter here. Read next: `Finished`, for when all is done.
use Rattle.std.specs.Prelude.{◌≢◌, ◌<◌, ◌+◌, ◌==◌, ℕ, List, [], ◌∷◌, flat_map, filter, Bool, if◌then◌else◌}
use Rattle.std.specs.Ordering.{nat_cmp, is_lt}
use Rattle.std.specs.Cmp.Lexicographic.{slice_cmp}
use Rattle.std.specs.List.{list_any}
use Rattle.dt_lists.specs.Lists.{IsFront}
use Rattle.dt_events.specs.Events.{region_of}
use Rattle.dt_events.specs.declared.Event.{Event}
use Rattle.dt_events.specs.declared.Event.TheVariants.{Submit, Append}
use Rattle.dt_table.specs.Table.{Table}
use Rattle.dt_txn.specs.Transaction.{annotate, homes_of}
use Rattle.dt_txn.specs.Replica.{next_id}
use Rattle.dt_cluster.specs.declared.Cluster.{Cluster}
use Rattle.dt_workload.specs.declared.Workload.{Workload}
use Rattle.dt_workload.specs.declared.Session.{Session}
use Rattle.dt_workload.specs.declared.Ranked.{Ranked}
use Rattle.dt_session.specs.World.{World, opening_table, opening_world}
use Rattle.dt_session.specs.Step.{next, body_of}

-- the sessions with one more, in byte order of names
abbrev pub with_session : Session → List Session → List Session
with_session s [] = s ∷ []
with_session s (t ∷ sessions) = if is_lt (slice_cmp nat_cmp s.name t.name) then s ∷ t ∷ sessions else t ∷ with_session s sessions

-- the sessions of a region, in byte order of names
abbrev pub sessions_at : ℕ → List Session → List Session
sessions_at region [] = []
sessions_at region (s ∷ sessions) = if s.region == region then with_session s (sessions_at region sessions) else sessions_at region sessions

-- whether a session's first call has a key, or its target, at the session's region, before anything was moved
abbrev pub is_home : Cluster → ℕ → Table → Ranked → Bool
is_home cluster region t call = list_any (λ home. home == region) (homes_of (annotate cluster.procs (next_id region 0) call.rank (body_of call.wanted) t))

-- a session with its first call, if it has one
abbrev pub with_first_call : Session → List Ranked → List (Session × Ranked)
with_first_call s [] = []
with_first_call s (call ∷ calls) = (s, call) ∷ []

-- the sessions that have a call, each with its first one
abbrev pub first_calls : List Session → List (Session × Ranked)
first_calls sessions = flat_map (λ s. with_first_call s s.calls) sessions

-- one submission of each of these sessions, each followed at once by the region's own append where the region is a home;
-- `placed` is the number of the next append
abbrev pub first_events : Cluster → ℕ → Table → List (Session × Ranked) → ℕ → List Event
first_events cluster region t [] placed = []
first_events cluster region t ((s, call) ∷ sessions) placed =
    if is_home cluster region t call
    then Submit region s.name ∷ Append region region placed ∷ first_events cluster region t sessions (placed + 1)
    else Submit region s.name ∷ first_events cluster region t sessions placed

-- each event changes the world in which it happens
abbrev pub AllChange : Cluster → Workload → World → List Event → Type 0
AllChange cluster workload w [] = Unit {0}
AllChange cluster workload w (event ∷ events) = (next cluster workload w event ≢ w) × AllChange cluster workload (next cluster workload w event) events

-- each event changes the world, and every region begins by submitting the first call of each of its sessions
pub record IsEager (cluster : Cluster) (workload : Workload) (events : List Event) : Type 0 where
  pub changing : AllChange cluster workload (opening_world cluster workload) events
  pub begins : (region : ℕ) → region < cluster.regions →
      IsFront (first_events cluster region (opening_table cluster) (first_calls (sessions_at region workload.sessions)) 0) (filter (λ event. region_of event == region) events)
