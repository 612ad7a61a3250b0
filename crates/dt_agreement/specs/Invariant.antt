-- What every legal world keeps, for any number of regions, homes and moves (`Inv`): ids, logs, what regions inserted,
-- resolved and executed, and where sessions stand. And that each annotation is rooted in one history of moves (`Rooted`),
-- which is what ties attempts together that use keys of one unit under different homes. From the two follows that all
-- regions agree. Read next: src/laws.rt, whose laws say so; docs/PROOF.md says why it is so.
use Rattle.std.specs.Prelude.{◌≡◌, ◌<◌, ◌≤◌, ◌↔◌, ◌+◌, ◌*◌, ◌==◌, ℕ, zero, suc, Bool, List, length, map, filter, take, slice_index, slice_get, Option, Some, None}
use Rattle.std.specs.List.{list_any}
use Rattle.dt_lists.specs.Lists.{AnyIn, AllIn, Has, Pairwise}
use Rattle.dt_access.specs.Ids.{StandsBefore}
use Rattle.dt_access.specs.Clash.{Bytes, same_key}
use Rattle.dt_access.specs.Granules.{unit_of}
use Rattle.dt_access.specs.declared.TxnId.{TxnId}
use Rattle.dt_access.specs.declared.Access.{Access}
use Rattle.dt_access.specs.declared.Part.{Part}
use Rattle.dt_sched.specs.Views.{View, ids_of, log_at, HasPart, Reaches, IsClosed, Precedes}
use Rattle.dt_sched.specs.Decide.{IsSound}
use Rattle.dt_table.specs.Table.{Table, Moved, moves_of, opening_home, home_after}
use Rattle.dt_txn.specs.declared.Txn.{Txn}
use Rattle.dt_txn.specs.Transaction.{homes_of, part_of, IsValid}
use Rattle.dt_txn.specs.Serial.{outcomes, table_after}
use Rattle.dt_txn.specs.Replica.{Replica, done_ids}
use Rattle.dt_serial.specs.Order.{IsDown}
use Rattle.dt_cluster.specs.declared.Cluster.{Cluster}
use Rattle.dt_workload.specs.declared.Ranked.{Ranked}
use Rattle.dt_workload.specs.declared.Session.{Session}
use Rattle.dt_workload.specs.declared.Workload.{Workload}
use Rattle.dt_session.specs.World.{World, Node, Place, Submission, opening_table, node_at, asked_of, taken_of, logs_of, log_of, received_of, view_at, submissions, txn_of}
use Rattle.dt_session.specs.Step.{body_of}
use Rattle.dt_session.specs.Run.{txns_of}

-- each of a region's lists that has an entry for each region is as long as there are regions
pub record IsSized (regions : ℕ) (node : Node) : Type 0 where
  pub asked : length node.here.asked ≡ regions
  pub taken : length node.here.taken ≡ regions
  pub received : length node.received ≡ regions
  pub inserted : length node.here.inserted ≡ regions

-- the submissions of a region have its number, and are counted from 1
abbrev pub AreNumbered : ℕ → List Submission → Type 0
AreNumbered region submitted = (i : ℕ) (s : Submission) → slice_get submitted i ≡ Some s → s.txn.id ≡ record { seq = i + 1; region = region }

-- whether a transaction has a part at a home
abbrev pub has_home : ℕ → Txn → Bool
has_home home txn = list_any (λ h. h == home) (homes_of txn)

-- the ids of the submissions that have a part at a home, in order
abbrev pub requests : ℕ → List Submission → List TxnId
requests home submitted = map (λ s. s.txn.id) (filter (λ s. has_home home s.txn) submitted)

-- the part is that of a submitted transaction at this home
abbrev pub IsPartAt : World → ℕ → Part → Type 0
IsPartAt w home p = (txn : Txn) × (txn_of w p.id ≡ Some txn) × (p ≡ part_of txn home)

-- those of the ids that a region gave
abbrev pub given_by : ℕ → List TxnId → List TxnId
given_by region ids = filter (λ id. id.region == region) ids

-- a home's log: its items are parts of submitted transactions at this home, and of each region it has, in their order,
-- the first of that region's requests, as many as were taken
pub record IsLog (regions : ℕ) (w : World) (home : ℕ) : Type 0 where
  pub parts : AllIn (IsPartAt w home) (log_of w home)
  pub taken : (source : ℕ) → source < regions → taken_of w home source ≤ length (asked_of w source home)
  pub given : (source : ℕ) → source < regions → given_by source (ids_of (log_of w home)) ≡ take (taken_of w home source) (asked_of w source home)

-- of a home's log a region inserted no more than it received, and received no more than there is
pub record AreInOrder (w : World) (region home : ℕ) : Type 0 where
  pub inserted : slice_index (node_at w region).here.inserted home ≤ received_of w region home
  pub received : received_of w region home ≤ length (log_of w home)

-- the outcomes and the table are those of running these transactions one by one on the opening table
pub record IsRunOf (cluster : Cluster) (start : Table) (txns : List Txn) (here : Replica) : Type 0 where
  pub outcomes : here.done ≡ outcomes cluster.procs txns start
  pub table : here.table ≡ table_after cluster.procs txns start

-- a region executed the id
abbrev pub IsExecutedAt : World → ℕ → TxnId → Type 0
IsExecutedAt w region id = Has (done_ids (node_at w region).here) id

-- the order has just what some region executed, each after all that precedes it in the whole logs
pub record IsOrder (regions : ℕ) (w : World) (order : List TxnId) : Type 0 where
  pub executed : (id : TxnId) → Has order id ↔ ((region : ℕ) × (region < regions) × IsExecutedAt w region id)
  pub down : IsDown (Precedes (logs_of w)) order

-- how many of the submissions are of a session
abbrev pub attempts_by : Bytes → List Submission → ℕ
attempts_by name submitted = length (filter (λ s. same_key s.session name) submitted)

-- a submission does what the session's call of its number asks for, and has its rank; `place` is the place of that call in
-- the session
pub record IsOfCall (s : Submission) (session : Session) : Type 0 where
  pub place : ℕ
  pub call : Ranked
  pub number : s.call ≡ place + 1
  pub called : slice_get session.calls place ≡ Some call
  pub rank : s.txn.rank ≡ call.rank
  pub body : s.txn.body ≡ body_of call.wanted

-- a submission of a session: of one of its calls, which it does, and no attempt too many
pub record IsSubmissionOf (tries region : ℕ) (s : Submission) (session : Session) : Type 0 where
  pub name : s.session ≡ session.name
  pub here : session.region ≡ region
  pub call_from : 1 ≤ s.call
  pub call_to : s.call ≤ length session.calls
  pub of_call : IsOfCall s session
  pub attempt_from : 1 ≤ s.attempt
  pub attempt_to : s.attempt ≤ tries

-- a session that has n calls answered waits for this id: an attempt of its next call, after no more attempts than
-- its calls so far can have had
pub record IsWaiting (tries : ℕ) (submitted : List Submission) (session : Session) (answered : ℕ) (id : TxnId) : Type 0 where
  pub call : answered < length session.calls
  pub submission : Submission
  pub there : Has submitted submission
  pub same : submission.txn.id ≡ id
  pub name : submission.session ≡ session.name
  pub number : submission.call ≡ answered + 1
  pub attempt_from : 1 ≤ submission.attempt
  pub attempt_to : submission.attempt ≤ tries
  pub attempts : attempts_by session.name submitted ≤ tries * answered + submission.attempt

-- where a session stands with its region's submissions: it waits for an attempt, or it made no more attempts than its
-- answered calls can have had
abbrev pub IsPlaced : ℕ → List Submission → Session → ℕ → Option TxnId → Type 0
IsPlaced tries submitted session answered None = attempts_by session.name submitted ≤ tries * answered
IsPlaced tries submitted session answered (Some id) = IsWaiting tries submitted session answered id

-- where a session stands is right: it has no more calls answered than there are, and its attempt, if it waits for one, is
-- an attempt of its next call
pub record IsPlaceOf (tries : ℕ) (w : World) (session : Session) (place : Place) : Type 0 where
  pub answered : place.answered ≤ length session.calls
  pub placed : IsPlaced tries (node_at w session.region).submitted session place.answered place.waits

-- sessions and their submissions
pub record SessionsMatch (cluster : Cluster) (workload : Workload) (w : World) : Type 0 where
  pub places : Pairwise (IsPlaceOf cluster.tries w) workload.sessions w.places
  pub known : (region : ℕ) → region < cluster.regions → AllIn (λ s. AnyIn (IsSubmissionOf cluster.tries region s) workload.sessions) (node_at w region).submitted

-- what every legal world keeps; `order` is the order in which ids were first executed in any region
pub record Inv (cluster : Cluster) (workload : Workload) (w : World) (order : List TxnId) : Type 0 where
  -- there is a node for each region
  pub nodes : length w.nodes ≡ cluster.regions
  -- each node has an entry for each region in its lists
  pub sized : (region : ℕ) → region < cluster.regions → IsSized cluster.regions (node_at w region)
  -- ids: each region counts its submissions
  pub ids : (region : ℕ) → region < cluster.regions → AreNumbered region (node_at w region).submitted
  -- shape: each submitted transaction is valid
  pub valid : AllIn (λ s. IsValid cluster.procs cluster.version cluster.regions s.txn) (submissions w)
  -- asked: each home was asked for the parts of just those transactions that have one there, in order
  pub asked : (region home : ℕ) → region < cluster.regions → home < cluster.regions → asked_of w region home ≡ requests home (node_at w region).submitted
  -- logs: each has the first of each region's requests
  pub logs : (home : ℕ) → home < cluster.regions → IsLog cluster.regions w home
  -- lengths: inserted is received, received is in the log
  pub lengths : (region home : ℕ) → region < cluster.regions → home < cluster.regions → AreInOrder w region home
  -- done and resolved: what a region executed was closed and came after all that precedes it, and what it resolved are
  -- classes that nothing can join
  pub sound : (region : ℕ) → region < cluster.regions → IsSound (view_at w region) (node_at w region).here.resolved (done_ids (node_at w region).here)
  -- tables: outcomes and rows are those of running what the region executed, in its order
  pub tables : (region : ℕ) → region < cluster.regions → IsRunOf cluster (opening_table cluster) (txns_of w (done_ids (node_at w region).here)) (node_at w region).here
  -- order: all that was executed, each after all that precedes it
  pub ordered : IsOrder cluster.regions w order
  -- sessions: each waits for an attempt of its next call or for nothing, and has made no attempt too many
  pub sessions : SessionsMatch cluster workload w

-- the moves of a key's unit in the one history: the run of the order on the opening table
abbrev pub history_of : Cluster → World → List TxnId → Bytes → List Moved
history_of cluster w order key = moves_of (table_after cluster.procs (txns_of w order) (opening_table cluster)) key

-- how the last of the first n moves of a unit relates to t, whose entry names this home: its mover is closed and is not
-- reached from t, and where t has a part in the home's log, the mover has one there before it
abbrev pub HasRoot : View → TxnId → ℕ → List Moved → ℕ → Type 0
HasRoot logs t home moves zero = Unit {0}
HasRoot logs t home moves (suc c) =
    (m : Moved) × (slice_get moves c ≡ Some m) × IsClosed logs m.by × (¬ (Reaches logs t m.by))
    × (HasPart (log_at logs home) t → StandsBefore (ids_of (log_at logs home)) m.by t)

-- an entry of t is rooted in the moves of its key's unit: its home is the one after that many of them, and it has a root
pub record IsRooted (cluster : Cluster) (logs : View) (moves : List Moved) (t : TxnId) (a : Access) : Type 0 where
  pub home : a.home ≡ home_after (opening_home cluster.regions cluster.homes (unit_of cluster.version a.key)) (take a.counter moves)
  pub root : HasRoot logs t a.home moves a.counter

-- every entry of every submitted transaction, executed or not, is rooted in the one history of the moves of its key's unit
abbrev pub Rooted : Cluster → World → List TxnId → Type 0
Rooted cluster w order =
    AllIn (λ s. AllIn (λ a. IsRooted cluster (logs_of w) (history_of cluster w order a.key) s.txn.id a) s.txn.access) (submissions w)
