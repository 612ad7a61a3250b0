-- Only proofs need this file, and the private calls of a turn. A turn makes its way in many small calls, and of each of them
-- the same is said: what it makes of the node (`MovesOn`), and what has to be so before it (`CanGo`). Read `Turn` for what a whole
-- turn makes.
use Rattle.std.specs.Prelude.{◌≡◌, ◌<◌, ◌≤◌, ◌+◌, ◌^◌, ℕ, List, [], ◌∷◌, ◌++◌, length, get_or, map, max, set, slice_get, Bool, true, false, Some}
use Rattle.dt_lists.specs.Lists.{AllIn}
use Rattle.dt_access.specs.Clash.{Bytes}
use Rattle.dt_events.specs.declared.Stamped.{Stamped}
use Rattle.dt_events.specs.Stamps.{events_of}
use Rattle.dt_proc.specs.Tree.{ProcTree}
use Rattle.dt_sched.specs.Views.{log_at}
use Rattle.dt_txn.specs.declared.Entry.{Entry}
use Rattle.dt_txn.specs.declared.Txn.{Txn}
use Rattle.dt_txn.specs.Replica.{IsDrained, taken_from}
use Rattle.dt_region.specs.Region.{latest_stamp}
use Rattle.dt_packet.specs.declared.packet.Packet.{Packet}
use Rattle.dt_cluster.specs.declared.Cluster.{Cluster}
use Rattle.dt_workload.specs.declared.Workload.{Workload}
use Rattle.dt_node.specs.MeasureInner.{left_for}
use Rattle.dt_node.specs.NodeView.{NodeView, number_of}
use Rattle.dt_node.specs.NodeInWorld.{AreTold, NodeFits}
use Rattle.dt_node.specs.Turn.{HasPlacedOwn, HasTaken, MayAnswerAt, MaySubmitAt, MovesOn}
use Rattle.dt_node.specs.Steps.{HasTakenEach, own_left}
use Rattle.dt_node.specs.StepsInner.{HasPlaced, IsPlacedTo}

-- the region has all that comes before what a packet brings
pub record BeginsWithin (n : NodeView) (p : Packet) : Type 0 where
  pub asked : p.asked_at ≤ taken_from n.site.region.state.here p.source
  pub entries : p.log_at ≤ length (log_at n.site.region.state.logs p.source)

-- there is a world in which the node stands and all that the packets say is so; each event has taken one stamp at most
-- since the turn began
pub record CanGo (procs : List ProcTree) (packets : List Packet) (n : NodeView) : Type 0 where
  pub cluster : Cluster
  pub workload : Workload
  pub all : List Stamped
  pub procs_are : procs ≡ cluster.procs
  pub fits : NodeFits cluster workload (events_of all) n
  pub told : AreTold cluster workload (events_of all) packets n
  pub begins : AllIn (BeginsWithin n) packets
  pub packet_stamps : AllIn (λ p. p.stamp < 2 ^ 60) packets
  pub low : latest_stamp n.site.region ≤ 2 ^ 60 + length all

-- the same by some procedures, which a call that runs none does not know
pub record CanTake (packets : List Packet) (n : NodeView) : Type 0 where
  pub procs : List ProcTree
  pub can : CanGo procs packets n

-- a packet that a node might have got, which has these requests of a region and nothing else
abbrev pub asking_packet : NodeView → ℕ → ℕ → List Txn → Packet
asking_packet n source first asked = record {
  source = source;
  target = number_of n;
  stamp = 0;
  asked_at = first;
  asked = asked;
  log_at = 0;
  entries = [];
  took = 0;
  received = 0;
}

-- a packet that a node might have got, which has these entries of a region's log and nothing else
abbrev pub logging_packet : NodeView → ℕ → ℕ → List Entry → Packet
logging_packet n source first entries = record {
  source = source;
  target = number_of n;
  stamp = 0;
  asked_at = 0;
  asked = [];
  log_at = first;
  entries = entries;
  took = 0;
  received = 0;
}

-- a node after it learnt how far another region has come
abbrev pub noted : NodeView → ℕ → ℕ → ℕ → NodeView
noted n source took received = record n {
  took = set n.took source (max (get_or n.took source 0) took);
  received = set n.received source (max (get_or n.received source 0) received);
}

-- what a node knows of others, and how many turns it has made, stays
pub record KnowsTheSame (before after : NodeView) : Type 0 where
  pub took : after.took ≡ before.took
  pub received : after.received ≡ before.received
  pub turns : after.turns ≡ before.turns

-- some packets of these were taken, and these are left
pub record IsTaking (before : NodeView) (packets left : List Packet) (now : NodeView) : Type 0 where
  pub done : List Packet
  pub is : packets ≡ done ++ left
  pub moved : (procs : List ProcTree) → MovesOn procs done before now
  pub taken : HasTaken done before now
  pub each : (procs : List ProcTree) → HasTakenEach procs done before now
  pub turns : now.turns ≡ before.turns
  pub sessions : now.sessions ≡ before.sessions
  pub placed : HasPlacedOwn before → HasPlacedOwn now

-- some of these requests were placed, of which the first has this number, and these are left, of which the first has that one
pub record IsPlacing (before : NodeView) (source first : ℕ) (asked left : List Txn) (number : ℕ) (now : NodeView) : Type 0 where
  pub done : List Txn
  pub is : asked ≡ done ++ left
  pub next : number ≡ first + length done
  pub moved : (procs : List ProcTree) → MovesOn procs (asking_packet before source first asked ∷ []) before now
  pub taken : number ≤ taken_from now.site.region.state.here source
  pub append : HasPlaced source before now
  pub count : IsPlacedTo source number before now
  pub knows : KnowsTheSame before now
  pub sessions : now.sessions ≡ before.sessions
  pub placed : HasPlacedOwn before → HasPlacedOwn now

-- a session went on, so that less is left for all of them, and some event was made; and the region's own requests are placed,
-- if they were
pub record HasGoneOn (before after : NodeView) : Type 0 where
  pub less : left_for after.sessions < left_for before.sessions
  pub some : length before.site.region.events < length after.site.region.events
  pub placed : HasPlacedOwn before → HasPlacedOwn after

-- how a step of the session at a place ends: it went on, or it could not, and nothing has changed
abbrev pub EndsOne : (NodeView → Bytes → Type 0) → NodeView → ℕ → Bool → NodeView → Type 0
EndsOne May before index true after = HasGoneOn before after
EndsOne May before index false after = (after ≡ before) × ((name : Bytes) → slice_get (map (λ p. p.0) before.sessions.seats) index ≡ Some name → ¬ (May before name))

-- how a step of the sessions before a place ends: some went on, or none could, and nothing has changed
abbrev pub EndsSoFar : (NodeView → Bytes → Type 0) → NodeView → ℕ → Bool → NodeView → Type 0
EndsSoFar May before index true after = HasGoneOn before after
EndsSoFar May before index false after =
    (after ≡ before) × ((place : ℕ) (name : Bytes) → place < index → slice_get (map (λ p. p.0) before.sessions.seats) place ≡ Some name → ¬ (May before name))

-- how a step of all sessions ends: some went on, or none could, and nothing has changed
abbrev pub EndsAll : (NodeView → Bytes → Type 0) → NodeView → Bool → NodeView → Type 0
EndsAll May before true after = HasGoneOn before after
EndsAll May before false after = (after ≡ before) × ((name : Bytes) → ¬ (May before name))

-- where nothing is left to insert, to resolve or to execute, no event was made
abbrev pub RestsWhereDrained : NodeView → NodeView → Type 0
RestsWhereDrained before after = IsDrained before.site.region.state.logs before.site.region.state.here → after.site.region.events ≡ before.site.region.events

-- how one pass over the sessions and a round end: some session went on; or none could, and only the round made events, if
-- something was left for it
abbrev pub PassesOnce : NodeView → Bool → NodeView → Type 0
PassesOnce before true after = HasGoneOn before after
PassesOnce before false after =
    (after.sessions ≡ before.sessions)
    × ((name : Bytes) → ¬ (MayAnswerAt before name) × ¬ (MaySubmitAt before name))
    × (HasPlacedOwn before → HasPlacedOwn after) × RestsWhereDrained before after

-- how the placing of the next such request ends: it was placed, or all are
abbrev pub EndsPlacing : NodeView → Bool → NodeView → Type 0
EndsPlacing before true after = own_left after < own_left before
EndsPlacing before false after = HasPlacedOwn after
