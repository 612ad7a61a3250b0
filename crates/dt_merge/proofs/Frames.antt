-- An event leaves what is the own of other regions.
use Rattle.std.proofs.Common.{◌≡◌, ◌≢◌, ◌+◌, ℕ, Bool, true, false, cond, eqb, leb, ltb, ◌&&◌, [], ◌∷◌, ◌++◌, set, Some, None, refl, sym}
use Rattle.std.specs.Prelude.{Option, option_and_then, slice_get}
use Rattle.std.proofs.lemmas.List.{get_or-set_other}
use Rattle.dt_events.specs.declared.Event.{Event}
use Rattle.dt_events.specs.declared.Event.TheVariants.{Submit, Append, Deliver, Insert, Resolve, Execute, Answer}
use Rattle.dt_events.specs.Events.{region_of}
use Rattle.dt_txn.specs.declared.Txn.{Txn}
use Rattle.dt_txn.specs.Transaction.{part_of}
use Rattle.dt_txn.specs.Replica.{after_taking, stepped}
use Rattle.dt_cluster.specs.declared.Cluster.{Cluster}
use Rattle.dt_workload.specs.declared.Ranked.{Ranked}
use Rattle.dt_workload.specs.declared.Session.{Session}
use Rattle.dt_workload.specs.declared.Workload.{Workload}
use Rattle.dt_session.specs.World.{World, Node, Place, no_node, node_at, with_node, asked_of, taken_of, log_of, received_of, txn_of, session_at}
use Rattle.dt_session.specs.Step.{attempt_for, node_submitted, world_submitted, called, submitted, placed, received, moved_on, answered, next}
use Rattle.dt_merge.specs.OwnPart.{own, places_at}
use Rattle.dt_merge.proofs.OwnParts.{changed_elsewhere}

own_is : (workload : Workload) (v w : World) (q : ℕ) → node_at v q ≡ node_at w q → places_at q workload.sessions v.places ≡ places_at q workload.sessions w.places → own workload v q ≡ own workload w q
own_is workload v w q a b = λ k. record { node = a k; places = b k }

module _ (cluster : Cluster) (workload : Workload) (w : World) (q : ℕ) where
  node_elsewhere : (region : ℕ) (node : Node) → region ≢ q → own workload (with_node w region node) q ≡ own workload w q
  node_elsewhere region node n = own_is workload (with_node w region node) w q (get_or-set_other w.nodes region q node no_node (λ e. n (sym e))) refl

  call_elsewhere : (region : ℕ) (session : Session) (place : Place) (o : Option Ranked) → region ≢ q → own workload (called cluster workload w region session place o) q ≡ own workload w q
  call_elsewhere region session place None n = refl
  call_elsewhere region session place (Some call) n =
      own_is workload (world_submitted workload w region session place (attempt_for cluster w region session place call)) w q
      (get_or-set_other w.nodes region q (node_submitted (node_at w region) (attempt_for cluster w region session place call)) no_node (λ e. n (sym e)))
      (changed_elsewhere q region n workload.sessions w.places session.name (record place { waits = Some (attempt_for cluster w region session place call).txn.id }))

  submit_elsewhere : (region : ℕ) (o : Option (Session × Place)) → region ≢ q → own workload (submitted cluster workload w region o) q ≡ own workload w q
  submit_elsewhere region None n = refl
  submit_elsewhere region (Some (session, place)) n = call_elsewhere region session place (slice_get session.calls place.answered) n

  append_elsewhere : (home source : ℕ) (b : Bool) (o : Option Txn) → home ≢ q → own workload (cond b (placed w home source o) w) q ≡ own workload w q
  append_elsewhere home source false o n = refl
  append_elsewhere home source true None n = refl
  append_elsewhere home source true (Some txn) n =
      node_elsewhere home (record (node_at w home) { log = log_of w home ++ part_of txn home ∷ []; here = after_taking (node_at w home).here source }) n

  deliver_elsewhere : (region home last : ℕ) (b : Bool) → region ≢ q → own workload (cond b (received w region home last) w) q ≡ own workload w q
  deliver_elsewhere region home last false n = refl
  deliver_elsewhere region home last true n = node_elsewhere region (record (node_at w region) { received = set (node_at w region).received home last }) n

  move_elsewhere : (region : ℕ) (event : Event) → region ≢ q → own workload (moved_on cluster w region event) q ≡ own workload w q
  move_elsewhere region event n = node_elsewhere region (record (node_at w region) { here = stepped cluster.procs (txn_of w) (node_at w region).here event }) n

  answer_elsewhere : (region : ℕ) (o : Option (Session × Place)) → region ≢ q → own workload (answered workload w region o) q ≡ own workload w q
  answer_elsewhere region None n = refl
  answer_elsewhere region (Some (session, place)) n =
      own_is workload (answered workload w region (Some (session, place))) w q refl
      (changed_elsewhere q region n workload.sessions w.places session.name (record { answered = place.answered + 1; waits = None }))

  -- the frame of an event: its own region
  pub frame : (event : Event) → region_of event ≢ q → own workload (next cluster workload w event) q ≡ own workload w q
  frame (Submit region name) n = submit_elsewhere region (session_at workload.sessions w.places region name) n
  frame (Append home source number) n =
      append_elsewhere home source (eqb number (taken_of w home source)) (option_and_then (txn_of w) (slice_get (asked_of w source home) number)) n
  frame (Deliver region home first last) n = deliver_elsewhere region home last (leb first (received_of w region home) && ltb (received_of w region home) last) n
  frame (Insert region home) n = move_elsewhere region (Insert region home) n
  frame (Resolve region ids) n = move_elsewhere region (Resolve region ids) n
  frame (Execute region id) n = move_elsewhere region (Execute region id) n
  frame (Answer region name) n = answer_elsewhere region (session_at workload.sessions w.places region name) n
