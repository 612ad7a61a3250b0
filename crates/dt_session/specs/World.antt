-- The world: the state of all regions and of all sessions, as one value. One learns here what a region holds (what it
-- submitted, its own log, how much it received of the other logs, and its replica: what it asked, placed and made of the
-- logs) and where a session stands. Each event of `Step` turns one world into the next; `Run` does so for whole lists. A
-- region's number is its place in `nodes`, and a session's place in `places` is its place in the workload. Read next:
-- `Tries`, for when a session may go on; then `Step`.
use Rattle.std.specs.Prelude.{ℕ, List, [], ◌∷◌, length, map, flat_map, get_or, set, slice_index, replicate, Option, Some, None, option_map, unwrap_or, if◌then◌else◌, Bool, ◌&&◌, ◌==◌}
use Rattle.std.specs.Map.{lookup}
use Rattle.dt_access.specs.Clash.{Bytes, same_key}
use Rattle.dt_access.specs.Ids.{same_id}
use Rattle.dt_access.specs.declared.TxnId.{TxnId}
use Rattle.dt_access.specs.declared.Part.{Part}
use Rattle.dt_sched.specs.Views.{View}
use Rattle.dt_table.specs.Table.{Table, opening}
use Rattle.dt_txn.specs.declared.Txn.{Txn}
use Rattle.dt_txn.specs.declared.Outcome.{Outcome}
use Rattle.dt_txn.specs.Replica.{Replica, opening_replica, taken_from, fronts, view_of}
use Rattle.dt_cluster.specs.declared.Cluster.{Cluster}
use Rattle.dt_workload.specs.declared.Workload.{Workload}
use Rattle.dt_workload.specs.declared.Session.{Session}

-- an attempt that a region submitted: the transaction, the session that made it, and the numbers of its call in the
-- session and of the attempt in the call, both from 1
pub record Submission : Type 0 where
  pub txn : Txn
  pub session : Bytes
  pub call : ℕ
  pub attempt : ℕ

-- all that one region holds
pub record Node : Type 0 where
  -- what it submitted, in order
  pub submitted : List Submission
  -- its own log
  pub log : List Part
  -- of each other home, how long a front of that home's log it received
  pub received : List ℕ
  -- what it asked, what it placed, and what it made of the logs
  pub here : Replica

-- where a session stands: how many of its calls are answered, and the attempt that it waits for, if it does
pub record Place : Type 0 where
  pub answered : ℕ
  pub waits : Option TxnId

-- the state of all regions, by number, and of all sessions, in the order of the workload
pub record World : Type 0 where
  pub nodes : List Node
  pub places : List Place

-- a region before anything happens, in a cluster of n regions with this table
abbrev pub opening_node : ℕ → Table → Node
opening_node regions table = record {
  submitted = [];
  log = [];
  received = replicate regions 0;
  here = opening_replica regions table;
}

-- the table that every region has at first
abbrev pub opening_table : Cluster → Table
opening_table cluster = opening cluster.version cluster.regions cluster.homes cluster.rows

-- a session before its first call
abbrev pub idle_place : Place
idle_place = record { answered = 0; waits = None }

-- the world before anything happens
abbrev pub opening_world : Cluster → Workload → World
opening_world cluster workload = record {
  nodes = replicate cluster.regions (opening_node cluster.regions (opening_table cluster));
  places = map (λ session. idle_place) workload.sessions;
}

-- stands in where there is no such thing: a region
abbrev pub no_node : Node
no_node = opening_node 0 (opening 1 0 [] [])

-- a region of the world
abbrev pub node_at : World → ℕ → Node
node_at w region = get_or w.nodes region no_node

-- the world with this region changed
abbrev pub with_node : World → ℕ → Node → World
with_node w region node = record w { nodes = set w.nodes region node }

-- the ids that a region asked a home to place, in order
abbrev pub asked_of : World → ℕ → ℕ → List TxnId
asked_of w source home = get_or (node_at w source).here.asked home []

-- how many of a region's requests a home has placed
abbrev pub taken_of : World → ℕ → ℕ → ℕ
taken_of w home source = taken_from (node_at w home).here source

-- the logs of all homes, whole
abbrev pub logs_of : World → View
logs_of w = map (λ node. node.log) w.nodes

-- the log of one home
abbrev pub log_of : World → ℕ → List Part
log_of w home = (node_at w home).log

-- of each home, how long a front of its log a region received; its own log it has whole
abbrev pub received_lengths : World → ℕ → List ℕ
received_lengths w region = set (node_at w region).received region (length (log_of w region))

-- how long a front of a home's log a region received
abbrev pub received_of : World → ℕ → ℕ → ℕ
received_of w region home = slice_index (received_lengths w region) home

-- the logs as far as a region received them
abbrev pub received_logs : World → ℕ → View
received_logs w region = fronts (received_lengths w region) (logs_of w)

-- the view of a region: what it inserted
abbrev pub view_at : World → ℕ → View
view_at w region = view_of (received_logs w region) (node_at w region).here

-- all attempts that were submitted, region by region
abbrev pub submissions : World → List Submission
submissions w = flat_map (λ node. node.submitted) w.nodes

-- the attempt of an id among these, if it is there
abbrev pub find_submission : List Submission → TxnId → Option Submission
find_submission [] id = None
find_submission (s ∷ rest) id = if same_id s.txn.id id then Some s else find_submission rest id

-- the attempt of an id, if it was submitted: it is looked for where ids of its region are given, so that a region finds
-- its own attempts in its own list
abbrev pub submission_of : World → TxnId → Option Submission
submission_of w id = find_submission (node_at w id.region).submitted id

-- the transaction of an id, if it was submitted
abbrev pub txn_of : World → TxnId → Option Txn
txn_of w id = option_map (λ s. s.txn) (submission_of w id)

-- the number of an attempt in its call; 0 where it was not submitted
abbrev pub attempt_of : World → TxnId → ℕ
attempt_of w id = unwrap_or (option_map (λ s. s.attempt) (submission_of w id)) 0

-- the outcome of an id in a list of outcomes, if it has one
abbrev pub outcome_in : List (TxnId × Outcome) → TxnId → Option Outcome
outcome_in outcomes id = lookup (same_id id) outcomes

-- the outcome of an id that a region keeps, if it executed it
abbrev pub outcome_at : World → ℕ → TxnId → Option Outcome
outcome_at w region id = outcome_in (node_at w region).here.done id

-- whether a session has this name and is at this region
abbrev pub is_session : ℕ → Bytes → Session → Bool
is_session region name session = same_key session.name name && (session.region == region)

-- the session of this name at this region, with where it stands, if there is one
abbrev pub session_at : List Session → List Place → ℕ → Bytes → Option (Session × Place)
session_at [] places region name = None
session_at (s ∷ sessions) [] region name = None
session_at (s ∷ sessions) (p ∷ places) region name =
    if is_session region name s then Some (s, p) else session_at sessions places region name

-- the places with that session's changed
abbrev pub with_place : List Session → List Place → ℕ → Bytes → Place → List Place
with_place [] places region name place = places
with_place (s ∷ sessions) [] region name place = []
with_place (s ∷ sessions) (p ∷ places) region name place =
    if is_session region name s then place ∷ places else p ∷ with_place sessions places region name place
