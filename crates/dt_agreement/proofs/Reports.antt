-- Each executed attempt, and each attempt that an answer ended, has a submission and an outcome in the serial order.
use Rattle.std.proofs.Common.{◌≡◌, ◌<◌, ℕ, List, ◌∷◌, ◌++◌, Some, None, refl, sym, subst}
use Rattle.std.specs.Prelude.{Option, option_map}
use Rattle.dt_lists.specs.Lists.{Has}
use Rattle.dt_lists.proofs.Callers.{all_get}
use Rattle.dt_lists.proofs.Callers.{any_front}
use Rattle.dt_access.specs.Clash.{Bytes}
use Rattle.dt_access.specs.declared.TxnId.{TxnId}
use Rattle.dt_events.specs.declared.Event.{Event}
use Rattle.dt_events.specs.declared.Event.TheVariants.{Answer}
use Rattle.dt_txn.specs.declared.Outcome.{Outcome}
use Rattle.dt_cluster.specs.declared.Cluster.{Cluster}
use Rattle.dt_workload.specs.declared.Session.{Session}
use Rattle.dt_workload.specs.declared.Workload.{Workload}
use Rattle.dt_session.specs.World.{World, Place, Submission, submission_of, session_at}
use Rattle.dt_session.specs.Step.{MayAnswer, MayEnd, awaited_at}
use Rattle.dt_session.specs.Run.{world_after, AreLegalFrom, order_of, serial_outcomes, serial_outcome}
use Rattle.dt_agreement.specs.LegalRun.{IsLegalRun}
use Rattle.dt_agreement.specs.Invariant.{IsExecutedAt, IsPlaceOf, Inv}
use Rattle.dt_agreement.specs.Reports.{IsAccounted, IsAnswered}
use Rattle.dt_agreement.proofs.Submissions.{WasSubmitted}
use Rattle.dt_agreement.proofs.RegionViews.{order_known}
use Rattle.dt_agreement.proofs.Runs.{run_front}
use Rattle.dt_agreement.proofs.LegalWorlds.{legal_keeps}
use Rattle.dt_agreement.proofs.LaterWorlds.{later_found}
use Rattle.dt_agreement.proofs.Sessions.{session_found}
use Rattle.dt_agreement.proofs.WaitingSessions.{WaitsAt, waiting_for}
use Rattle.dt_agreement.proofs.AllAgree.{order_front, answered_done}
use Rattle.dt_agreement.proofs.AcrossMoves.{executed_outcome}

-- a known id has a submission
known_submission : (w : World) (id : TxnId) → WasSubmitted w id → (s : Submission) × (submission_of w id ≡ Some s)
known_submission w id k = go (submission_of w id) refl k.1
  where
    go : (o : Option Submission) → submission_of w id ≡ o → option_map (λ s. s.txn) o ≡ Some k.0 → (s : Submission) × (submission_of w id ≡ Some s)
    go None e is = cc
    go (Some s) e is = (s, e)

-- the session that may be answered, and the id that it waits for
record IsAnswerable (workload : Workload) (w : World) (region : ℕ) (name : Bytes) : Type 0 where
  session : Session
  place : Place
  id : TxnId
  found : session_at workload.sessions w.places region name ≡ Some (session, place)
  waits : place.waits ≡ Some id

answerable : (cluster : Cluster) (workload : Workload) (w : World) (region : ℕ) (name : Bytes) → MayAnswer cluster w region (session_at workload.sessions w.places region name)
    → IsAnswerable workload w region name
answerable cluster workload w region name may = go (session_at workload.sessions w.places region name) refl may
  where
    of_waiting : (session : Session) (place : Place) (waits : Option TxnId) → session_at workload.sessions w.places region name ≡ Some (session, place)
        → place.waits ≡ waits → MayEnd cluster.tries (awaited_at w region waits) → IsAnswerable workload w region name
    of_waiting session place None e f m = absurd m
    of_waiting session place (Some id) e f m = record { session = session; place = place; id = id; found = e; waits = f }

    go : (o : Option (Session × Place)) → session_at workload.sessions w.places region name ≡ o → MayAnswer cluster w region o → IsAnswerable workload w region name
    go None e m = absurd m
    go (Some (session, place)) e m = of_waiting session place place.waits e refl m

-- an executed attempt is accounted for
pub executed_accounted : {cluster : Cluster} {workload : Workload} {events : List Event} → IsLegalRun cluster workload events
    → (id : TxnId) → Has (order_of events) id → IsAccounted cluster workload events id
executed_accounted {cluster = cluster} {workload = workload} {events = events} run id h = record { submission = s.0; outcome = o.0; found = s.1; serial = o.2 }
  where
    w : World
    w = world_after cluster workload events

    i : Inv cluster workload w (order_of events)
    i = legal_keeps run

    s : (s : Submission) × (submission_of w id ≡ Some s)
    s = known_submission w id (all_get (WasSubmitted w) (order_of events) (order_known i) id h)

    o : (o : Outcome) × Has (serial_outcomes cluster workload events) (id, o) × (serial_outcome cluster workload events id ≡ Some o)
    o = executed_outcome run id h

-- so is each that an answer ended, and it is of the session's next call
pub answer_accounted : {cluster : Cluster} {workload : Workload} (first : List Event) (region : ℕ) (name : Bytes) (last : List Event)
    → IsLegalRun cluster workload (first ++ Answer region name ∷ last) → IsAnswered cluster workload (first ++ Answer region name ∷ last) first region name
answer_accounted {cluster = cluster} {workload = workload} first region name last run = record {
  session = a.session;
  place = a.place;
  id = a.id;
  found = a.found;
  waits = a.waits;
  accounted = record { submission = wait.submission; outcome = told.outcome; found = later_found first (Answer region name ∷ last) run a.id wait.submission wait.found; serial = told.serial };
  its = wait.name;
  call = wait.call;
}
  where
    w : World
    w = world_after cluster workload first

    split : IsLegalRun cluster workload first × AreLegalFrom cluster workload w (Answer region name ∷ last)
    split = run_front first (Answer region name ∷ last) run

    early : Inv cluster workload w (order_of first)
    early = legal_keeps split.0

    a : IsAnswerable workload w region name
    a = answerable cluster workload w region name split.1.0.allowed

    seat : Has workload.sessions a.session × (a.session.name ≡ name) × (a.session.region ≡ region) × IsPlaceOf cluster.tries w a.session a.place
    seat = session_found (IsPlaceOf cluster.tries w) workload.sessions w.places region name a.session a.place early.sessions.places a.found

    wait : WaitsAt cluster w a.session a.place a.id
    wait = waiting_for early a.session a.place a.id (subst (λ r. r < cluster.regions) (sym seat.2) split.1.0.regions) seat.3 a.waits

    done : IsExecutedAt w region a.id
    done = answered_done cluster w region (Some (a.session, a.place)) a.id (subst (MayAnswer cluster w region) a.found split.1.0.allowed) a.waits

    there : Has (order_of (first ++ Answer region name ∷ last)) a.id
    there = any_front (λ y. y ≡ a.id) (order_of first) (order_of (first ++ Answer region name ∷ last)) (order_front first (Answer region name ∷ last))
        ((early.ordered.executed a.id).1 (region, split.1.0.regions, done))

    told : IsAccounted cluster workload (first ++ Answer region name ∷ last) a.id
    told = executed_accounted run a.id there
