-- Only proofs need this file, and the private calls of a turn. How a turn begins where nothing has happened anywhere: each
-- session submits its first call, and what that asks of the node's own region is placed at once. One learns here what is so
-- after the submissions of the first sessions (`BeginsSoFar`). Read `Turn` for what a whole turn makes.
use Rattle.std.specs.Prelude.{◌≡◌, ℕ, List, [], ◌++◌, drop, map, Ok}
use Rattle.dt_access.specs.declared.TxnId.{TxnId}
use Rattle.dt_events.specs.Stamps.{events_of}
use Rattle.dt_proc.specs.Tree.{ProcTree}
use Rattle.dt_txn.specs.declared.Body.{Body}
use Rattle.dt_txn.specs.Replica.{taken_from}
use Rattle.dt_cluster.specs.declared.Cluster.{Cluster}
use Rattle.dt_workload.specs.declared.Workload.{Workload}
use Rattle.dt_session.specs.Eager.{first_calls, first_events, sessions_at}
use Rattle.dt_session.specs.Sessions.{after_wait, idle_seat}
use Rattle.dt_session.specs.World.{opening_table}
use Rattle.dt_site.specs.declared.Origin.{Origin}
use Rattle.dt_site.specs.Site.{MakesAttempt}
use Rattle.dt_node.specs.NodeView.{NodeView, new_items, number_of}
use Rattle.dt_node.specs.NodeInWorld.{NodeFits}
use Rattle.dt_node.specs.Turn.{HasPlacedOwn, MovesOn}
use Rattle.dt_node.specs.StepsInner.{HasPlaced}

-- some of what the node asked of its own region was placed, and nothing else has happened
pub record IsPlacingOwn (before now : NodeView) : Type 0 where
  pub moved : (procs : List ProcTree) → MovesOn procs [] before now
  pub placed : HasPlaced (number_of before) before now

-- an attempt of this origin was submitted, for which its session waits
abbrev pub MakesNext : List ProcTree → NodeView → Origin → ℕ → Body → NodeView → Type 0
MakesNext procs before origin rank body after =
    (id : TxnId) × MakesAttempt procs before.site rank body origin (Ok id) after.site × (after.sessions ≡ after_wait before.sessions origin.session id)

-- before anything happens anywhere a node begins: the sessions before a place have submitted their first calls, those from
-- there on are idle, and the events of these are all that is left to make
pub record HasBegun (cluster : Cluster) (workload : Workload) (before : NodeView) (place : ℕ) (now : NodeView) : Type 0 where
  pub events : events_of (new_items before now)
      ++ first_events cluster (number_of before) (opening_table cluster) (first_calls (drop place (sessions_at (number_of before) workload.sessions)))
      (taken_from now.site.region.state.here (number_of before))
      ≡ first_events cluster (number_of before) (opening_table cluster) (first_calls (sessions_at (number_of before) workload.sessions)) 0
  pub seats : drop place now.sessions.seats ≡ map idle_seat (drop place (sessions_at (number_of before) workload.sessions))
  pub names : map (λ p. p.0) now.sessions.seats ≡ map (λ p. p.0) before.sessions.seats
  pub table : now.site.region.state.here.table ≡ opening_table cluster
  pub placed : HasPlacedOwn now

-- the same in whatever cluster and for whatever workload nothing has happened yet
abbrev pub BeginsSoFar : List ProcTree → NodeView → ℕ → NodeView → Type 0
BeginsSoFar procs before place now = (cluster : Cluster) (workload : Workload) → procs ≡ cluster.procs → NodeFits cluster workload [] before → HasBegun cluster workload before place now
