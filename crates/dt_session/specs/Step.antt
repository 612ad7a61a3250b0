-- The seven rules. One learns here which event is legal in a world (`IsLegal`) and what each does (`next`): a session
-- submits a call (1), a home places a part in its log (2), a log is delivered on (3), a region inserts a part (4), resolves
-- a deadlocked group (5) and executes a transaction (6), and a session is answered (7). What a region does to its own state
-- stands in dt_txn's `Replica`, when a session may try or be answered in `Tries`, and here is only what rests on other regions
-- and on sessions. Read `Run` next.
use Rattle.std.specs.Prelude.{◌<◌, ◌≤◌, ◌+◌, ℕ, [], ◌∷◌, ◌++◌, length, set, slice_get, Option, Some, None, option_map, option_and_then, if◌then◌else◌, ◌&&◌, ◌==◌, nat_le, nat_lt}
use Rattle.dt_access.specs.declared.TxnId.{TxnId}
use Rattle.dt_events.specs.declared.Event.{Event}
use Rattle.dt_events.specs.declared.Event.TheVariants.{Submit, Append, Deliver, Insert, Resolve, Execute, Answer}
use Rattle.dt_txn.specs.declared.Txn.{Txn}
use Rattle.dt_txn.specs.Transaction.{part_of}
use Rattle.dt_txn.specs.Replica.{MayStep, next_id, submission_for, after_asking, after_taking, stepped}
use Rattle.dt_cluster.specs.declared.Cluster.{Cluster}
use Rattle.dt_workload.specs.declared.Workload.{Workload}
use Rattle.dt_workload.specs.declared.Session.{Session}
use Rattle.dt_workload.specs.declared.Ranked.{Ranked}
pub use Rattle.dt_session.specs.Tries.{Awaited, IsLast, IsStale, MayEnd, MayTry, attempt_after, body_of, ranked_body}
use Rattle.dt_session.specs.World.{World, Node, Place, Submission, node_at, with_node, asked_of, taken_of, log_of, received_of, received_logs, txn_of, attempt_of, outcome_at, session_at, with_place}

-- the attempt that a session waits for, if it does, with its outcome at a region
abbrev pub awaited_at : World → ℕ → Option TxnId → Option Awaited
awaited_at w region waits = option_map (λ id. record { attempt = attempt_of w id; outcome = outcome_at w region id }) waits

-- there is such a session, and it may submit
abbrev pub MaySubmit : Cluster → World → ℕ → Option (Session × Place) → Type 0
MaySubmit cluster w region None = ⊥
MaySubmit cluster w region (Some (session, place)) = MayTry cluster.tries (length session.calls) place.answered (awaited_at w region place.waits)

-- there is such a session, and it may be answered
abbrev pub MayAnswer : Cluster → World → ℕ → Option (Session × Place) → Type 0
MayAnswer cluster w region None = ⊥
MayAnswer cluster w region (Some (session, place)) = MayEnd cluster.tries (awaited_at w region place.waits)

-- the regions that an event names exist, in a cluster of n
abbrev pub RegionsExist : ℕ → Event → Type 0
RegionsExist regions (Submit region session) = region < regions
RegionsExist regions (Append home source number) = (home < regions) × (source < regions)
RegionsExist regions (Deliver region home first last) = (region < regions) × (home < regions)
RegionsExist regions (Insert region home) = (region < regions) × (home < regions)
RegionsExist regions (Resolve region ids) = region < regions
RegionsExist regions (Execute region id) = region < regions
RegionsExist regions (Answer region session) = region < regions

-- where each kind of event may happen
abbrev pub MayHappen : Cluster → Workload → World → Event → Type 0
-- a session of the region may try a call
MayHappen cluster workload w (Submit region session) = MaySubmit cluster w region (session_at workload.sessions w.places region session)
-- the source asked the home for more parts than that
MayHappen cluster workload w (Append home source number) = number < length (asked_of w source home)
-- the places are in order, and the home's log reaches that far
MayHappen cluster workload w (Deliver region home first last) = (first ≤ last) × (last ≤ length (log_of w home))
-- the region may make the step by what it received
MayHappen cluster workload w (Insert region home) = MayStep (received_logs w region) (node_at w region).here (Insert region home)
MayHappen cluster workload w (Resolve region ids) = MayStep (received_logs w region) (node_at w region).here (Resolve region ids)
MayHappen cluster workload w (Execute region id) = MayStep (received_logs w region) (node_at w region).here (Execute region id)
-- a session of the region may be answered
MayHappen cluster workload w (Answer region session) = MayAnswer cluster w region (session_at workload.sessions w.places region session)

-- an event is legal in a world: the regions that it names exist, and its rule allows it there
pub record IsLegal (cluster : Cluster) (workload : Workload) (w : World) (event : Event) : Type 0 where
  pub regions : RegionsExist cluster.regions event
  pub allowed : MayHappen cluster workload w event

-- the number of the rule by which an event is legal or not
abbrev pub rule_of : Event → ℕ
rule_of (Submit region session) = 1
rule_of (Append home source number) = 2
rule_of (Deliver region home first last) = 3
rule_of (Insert region home) = 4
rule_of (Resolve region ids) = 5
rule_of (Execute region id) = 6
rule_of (Answer region session) = 7

-- the number of the attempt that comes next: 1 for a new call, else one above that of the attempt that is waited for
abbrev pub next_attempt : World → Option TxnId → ℕ
next_attempt w waits = attempt_after (option_map (attempt_of w) waits)

-- the id of a region's next submission
abbrev pub upcoming_id : World → ℕ → TxnId
upcoming_id w region = next_id region (length (node_at w region).submitted)

-- what a session submits: its next call, as its region makes a transaction of it, of the rank of that call
abbrev pub attempt_for : Cluster → World → ℕ → Session → Place → Ranked → Submission
attempt_for cluster w region session place call = record {
  txn = submission_for cluster.procs region (length (node_at w region).submitted) (node_at w region).here call.rank (body_of call.wanted);
  session = session.name;
  call = place.answered + 1;
  attempt = next_attempt w place.waits;
}

-- the region after it submitted an attempt: each home of the attempt is asked for its part
abbrev pub node_submitted : Node → Submission → Node
node_submitted node s = record node { submitted = node.submitted ++ s ∷ []; here = after_asking node.here s.txn }

-- the world after a session submitted an attempt, for which it waits
abbrev pub world_submitted : Workload → World → ℕ → Session → Place → Submission → World
world_submitted workload w region session place s = record {
  nodes = set w.nodes region (node_submitted (node_at w region) s);
  places = with_place workload.sessions w.places region session.name (record place { waits = Some s.txn.id });
}

-- the world after a session submits its next call, if there are a session and a call
abbrev pub called : Cluster → Workload → World → ℕ → Session → Place → Option Ranked → World
called cluster workload w region session place None = w
called cluster workload w region session place (Some call) = world_submitted workload w region session place (attempt_for cluster w region session place call)

-- the world after what this look-up found submits its next call; where there is no such session nothing changes
abbrev pub submitted : Cluster → Workload → World → ℕ → Option (Session × Place) → World
submitted cluster workload w region None = w
submitted cluster workload w region (Some (session, place)) = called cluster workload w region session place (slice_get session.calls place.answered)

-- the world after a home placed a transaction's part at the end of its log, as the source's next request
abbrev pub placed : World → ℕ → ℕ → Option Txn → World
placed w home source None = w
placed w home source (Some txn) = with_node w home (record (node_at w home) {
  log = log_of w home ++ part_of txn home ∷ [];
  here = after_taking (node_at w home).here source;
})

-- the world after a region received a home's log up to a place
abbrev pub received : World → ℕ → ℕ → ℕ → World
received w region home last = with_node w region (record (node_at w region) { received = set (node_at w region).received home last })

-- the world after a step that a region makes by itself
abbrev pub moved_on : Cluster → World → ℕ → Event → World
moved_on cluster w region event = with_node w region (record (node_at w region) { here = stepped cluster.procs (txn_of w) (node_at w region).here event })

-- the world after a session is answered: it waits for nothing, before its next call
abbrev pub answered : Workload → World → ℕ → Option (Session × Place) → World
answered workload w region None = w
answered workload w region (Some (session, place)) = record w {
  places = with_place workload.sessions w.places region session.name (record { answered = place.answered + 1; waits = None });
}

-- the world after an event
abbrev pub next : Cluster → Workload → World → Event → World
next cluster workload w (Submit region session) = submitted cluster workload w region (session_at workload.sessions w.places region session)
-- a request is placed once, in its turn
next cluster workload w (Append home source number) =
    if number == taken_of w home source
    then placed w home source (option_and_then (txn_of w) (slice_get (asked_of w source home) number))
    else w
-- only a delivery that joins what was received and goes past it changes anything
next cluster workload w (Deliver region home first last) =
    if nat_le first (received_of w region home) && nat_lt (received_of w region home) last
    then received w region home last
    else w
next cluster workload w (Insert region home) = moved_on cluster w region (Insert region home)
next cluster workload w (Resolve region ids) = moved_on cluster w region (Resolve region ids)
next cluster workload w (Execute region id) = moved_on cluster w region (Execute region id)
next cluster workload w (Answer region session) = answered workload w region (session_at workload.sessions w.places region session)
