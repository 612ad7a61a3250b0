-- Which workloads a cluster can be given: what each call and each move needs, what a session needs, and the limits on
-- their number. A workload file is one exactly where its lines say such a workload (`File`); whoever takes a workload may
-- rely on all of this. Read next: `File`.
use Rattle.std.specs.Prelude.{◌<◌, ◌≤◌, ◌==◌, ℕ, List, [], ◌∷◌, ◌++◌, map, length, count_by}
use Rattle.std.specs.List.{sum_by}
use Rattle.dt_lists.specs.Lists.{AllIn, Distinct}
use Rattle.dt_text.specs.Texts.{IsName}
use Rattle.dt_eval.specs.Calls.{CallFits}
use Rattle.dt_cluster.specs.declared.Cluster.{Cluster}
use Rattle.dt_text.specs.Texts.{Bytes}
use Rattle.dt_workload.specs.declared.workload.Wanted.{Wanted}
use Rattle.dt_workload.specs.declared.workload.Wanted.TheVariants.{Call, Move}
use Rattle.dt_access.specs.Granules.{IsUnitKey}
use Rattle.dt_workload.specs.declared.workload.Ranked.{Ranked}
use Rattle.dt_workload.specs.declared.workload.Session.{Session}
use Rattle.dt_workload.specs.declared.workload.Workload.{Workload}

-- a call names a procedure, which its arguments fit and by which they name keys; a move is of a key that is a unit, to a
-- region
abbrev pub WantedFits : Cluster → Wanted → Type 0
WantedFits cluster (Call proc args) = CallFits cluster.procs proc args
WantedFits cluster (Move key target) = IsUnitKey cluster.version key × (target < cluster.regions)

-- a call or a move with its rank, which is one digit
abbrev pub RankedFits : Cluster → Ranked → Type 0
RankedFits cluster ranked = (ranked.rank < 10) × WantedFits cluster ranked.wanted

-- the session has a name and is at a region, and all that it wants fits
pub record IsValidSession (cluster : Cluster) (session : Session) : Type 0 where
  pub name : IsName session.name
  pub region : session.region < cluster.regions
  pub calls : AllIn (RankedFits cluster) session.calls

-- the session with one more call or move
abbrev pub wanting : Session → Ranked → Session
wanting session wanted = record { name = session.name; region = session.region; calls = session.calls ++ wanted ∷ [] }

-- the names of sessions, in their order
abbrev pub session_names : List Session → List Bytes
session_names sessions = map (λ s. s.name) sessions

-- how many of the sessions are at a region
abbrev pub session_count_at : ℕ → List Session → ℕ
session_count_at region sessions = count_by (λ s. s.region == region) sessions

-- how many calls and moves there are in all sessions
abbrev pub calls_in : List Session → ℕ
calls_in sessions = sum_by (λ s. length s.calls) sessions

-- a workload that this cluster can be given: no two sessions have one name, each session is valid, and there are at most 64
-- sessions at each region and at most 20,000 calls and moves
pub record IsValidWorkload (cluster : Cluster) (workload : Workload) : Type 0 where
  pub names_once : Distinct (session_names workload.sessions)
  pub sessions : AllIn (IsValidSession cluster) workload.sessions
  pub few_sessions : (region : ℕ) → session_count_at region workload.sessions ≤ 64
  pub few_calls : calls_in workload.sessions ≤ 20000
