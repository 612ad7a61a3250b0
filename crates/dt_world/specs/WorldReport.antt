-- What a report says of the events of a cluster and its workload. One learns here what each of its sections has: a reply
-- for each answer, an attempt for each executed id in the serial order, and each region's rows. What an outcome is, is said twice:
-- as the serial order gives it, and as the regions keep it. That no look-up comes back empty is a clause of
-- `World::report`. Read next: `Report` of dt_report, for its text.
use Rattle.std.specs.Prelude.{◌≡◌, ◌<◌, ◌+◌, ℕ, List, [], ◌∷◌, ◌++◌, map, filter_map, Option, Some, None, option_map, option_and_then, option_to_list}
use Rattle.std.specs.List.{range_with_len}
use Rattle.dt_lists.specs.Lists.{Has}
use Rattle.dt_access.specs.Clash.{Bytes}
use Rattle.dt_access.specs.declared.TxnId.{TxnId}
use Rattle.dt_events.specs.declared.Event.{Event}
use Rattle.dt_events.specs.declared.Event.TheVariants.{Answer}
use Rattle.dt_table.specs.Table.{shown}
use Rattle.dt_table.specs.declared.Shown.{Shown}
use Rattle.dt_txn.specs.declared.Outcome.{Outcome}
use Rattle.dt_report.specs.Report.{report_text}
use Rattle.dt_report.specs.Printable.{IsPrintable}
use Rattle.dt_report.specs.declared.Report.{Report}
use Rattle.dt_report.specs.declared.Reply.{Reply}
use Rattle.dt_report.specs.declared.Ran.{Ran}
use Rattle.dt_cluster.specs.declared.Cluster.{Cluster}
use Rattle.dt_workload.specs.declared.Session.{Session}
use Rattle.dt_workload.specs.declared.Workload.{Workload}
use Rattle.dt_session.specs.World.{World, Place, Submission, opening_world, node_at, session_at, submission_of}
use Rattle.dt_session.specs.Step.{next}
use Rattle.dt_session.specs.Run.{world_after, order_of, serial_outcome, region_table}

-- the name of the session that an event answers, if the event is an answer
abbrev pub answered_name : Event → Option Bytes
answered_name (Answer region session) = Some session
answered_name event = None

-- the session that an event answers, with where it stands just before, if the event is an answer
abbrev pub answered_session : Workload → World → Event → Option (Session × Place)
answered_session workload w (Answer region name) = session_at workload.sessions w.places region name
answered_session workload w event = None

-- the reply to a session that stands there and waits for an attempt with this outcome
abbrev pub reply_to : Session → Place → Outcome → Reply
reply_to session place outcome = record { session = session.name; call = place.answered + 1; outcome = outcome }

-- the reply to a session: the number of its call, and the outcome, when all events run in the serial order, of the
-- attempt that it waits for
abbrev pub reply_for : Cluster → Workload → List Event → Option (Session × Place) → Option Reply
reply_for cluster workload all None = None
reply_for cluster workload all (Some (session, place)) =
    option_map (reply_to session place) (option_and_then (serial_outcome cluster workload all) place.waits)

-- the replies that these events give one after another, from a world; the outcomes are those of all events
abbrev pub replies_from : Cluster → Workload → List Event → World → List Event → List Reply
replies_from cluster workload all w [] = []
replies_from cluster workload all w (event ∷ events) =
    option_to_list (reply_for cluster workload all (answered_session workload w event)) ++ replies_from cluster workload all (next cluster workload w event) events

-- for each answer in order, the session, the number of its call, and the outcome of what it waited for
abbrev pub replies_of : Cluster → Workload → List Event → List Reply
replies_of cluster workload events = replies_from cluster workload events (opening_world cluster workload) events

-- an attempt with its outcome, as it is reported
abbrev pub ran : TxnId → Submission → Outcome → Ran
ran id s outcome = record { id = id; session = s.session; call = s.call; attempt = s.attempt; outcome = outcome }

-- an executed attempt: whose it is, and its outcome when all events run in the serial order
abbrev pub ran_of : Cluster → Workload → List Event → TxnId → Option Ran
ran_of cluster workload events id =
    option_and_then (λ s. option_map (ran id s) (serial_outcome cluster workload events id)) (submission_of (world_after cluster workload events) id)

-- the executed attempts, in the serial order
abbrev pub rans_of : Cluster → Workload → List Event → List Ran
rans_of cluster workload events = filter_map (ran_of cluster workload events) (order_of events)

-- for each region, what is shown of the table of running, in the serial order, what it executed
abbrev pub tables_of : Cluster → Workload → List Event → List (List Shown)
tables_of cluster workload events = map (λ region. shown (region_table cluster workload events region)) (range_with_len 0 cluster.regions)

-- the report of these events
abbrev pub report_of : Cluster → Workload → List Event → Report
report_of cluster workload events = record {
  replies = replies_of cluster workload events;
  order = rans_of cluster workload events;
  tables = tables_of cluster workload events;
  events = events;
}

-- a region keeps this outcome of the id
abbrev pub KeepsOutcome : World → ℕ → TxnId → Outcome → Type 0
KeepsOutcome w region id outcome = Has (node_at w region).here.done (id, outcome)

-- the outcome of the id is the one that each region keeps that executed it, and some region did
pub record IsOutcomeOf (regions : ℕ) (w : World) (id : TxnId) (outcome : Outcome) : Type 0 where
  pub executed : (region : ℕ) × (region < regions) × KeepsOutcome w region id outcome
  pub kept : (region : ℕ) (other : Outcome) → region < regions → KeepsOutcome w region id other → other ≡ outcome

-- the reply is that to an attempt of the session's call: the outcome that each region keeps that executed the attempt
pub record IsReplyOf (regions : ℕ) (w : World) (reply : Reply) : Type 0 where
  pub id : TxnId
  pub submission : Submission
  pub found : submission_of w id ≡ Some submission
  pub session : submission.session ≡ reply.session
  pub call : submission.call ≡ reply.call
  pub outcome : IsOutcomeOf regions w id reply.outcome

-- the text is that of the report of these events, of a cluster and its workload, and the report's parts are printable
abbrev pub IsToldBy : List ℕ → List Event → Type 0
IsToldBy text events =
    (cluster : Cluster) × (workload : Workload) × (text ≡ report_text (report_of cluster workload events)) × IsPrintable (report_of cluster workload events)

-- a text tells of one list of events, of whatever cluster and workload: two worlds whose reports have equal texts had equal events
abbrev pub TextsTellOneRun : Type 0
TextsTellOneRun = (text : List ℕ) (left right : List Event) → IsToldBy text left → IsToldBy text right → left ≡ right
