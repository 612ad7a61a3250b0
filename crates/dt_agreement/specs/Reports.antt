-- Nothing is left out of a report. A report looks up whose attempt each executed one is, and what came of it; one learns
-- here that both are always there (`IsAccounted`), also for the attempt that an answer ends (`IsAnswered`). So a report's
-- order section has each executed id, and its replies have each answer: the look-ups never come back empty. Read next:
-- the law `nothing_left_out` in src/laws.rt, and `WorldReport` of dt_world for the report.
use Rattle.std.specs.Prelude.{◌≡◌, ◌+◌, ℕ, List, Some}
use Rattle.dt_access.specs.Clash.{Bytes}
use Rattle.dt_access.specs.declared.TxnId.{TxnId}
use Rattle.dt_events.specs.declared.Event.{Event}
use Rattle.dt_txn.specs.declared.Outcome.{Outcome}
use Rattle.dt_cluster.specs.declared.Cluster.{Cluster}
use Rattle.dt_workload.specs.declared.Session.{Session}
use Rattle.dt_workload.specs.declared.Workload.{Workload}
use Rattle.dt_session.specs.World.{Place, Submission, submission_of, session_at}
use Rattle.dt_session.specs.Run.{world_after, serial_outcome}

-- the id has a submission and a serial outcome
pub record IsAccounted (cluster : Cluster) (workload : Workload) (events : List Event) (id : TxnId) : Type 0 where
  pub submission : Submission
  pub outcome : Outcome
  pub found : submission_of (world_after cluster workload events) id ≡ Some submission
  pub serial : serial_outcome cluster workload events id ≡ Some outcome

-- an answer after the first of these events: its session is there and waits for an attempt that is accounted for, as one of
-- that session's next call
pub record IsAnswered (cluster : Cluster) (workload : Workload) (events first : List Event) (region : ℕ) (name : Bytes) : Type 0 where
  pub session : Session
  pub place : Place
  pub id : TxnId
  pub found : session_at workload.sessions (world_after cluster workload first).places region name ≡ Some (session, place)
  pub waits : place.waits ≡ Some id
  pub accounted : IsAccounted cluster workload events id
  pub its : accounted.submission.session ≡ session.name
  pub call : accounted.submission.call ≡ place.answered + 1
