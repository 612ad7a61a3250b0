-- What an event does to the own part of its region, as a function of that part.
use Rattle.std.proofs.Common.{◌≡◌, ◌<◌, ◌+◌, ℕ, Bool, true, false, cond, [], ◌∷◌, ◌++◌, length, set, Some, None, refl}
use Rattle.std.specs.Prelude.{Option, slice_index}
use Rattle.std.proofs.lemmas.List.{get_or-set_same}
use Rattle.dt_txn.specs.declared.Txn.{Txn}
use Rattle.dt_txn.specs.Transaction.{part_of}
use Rattle.dt_txn.specs.Replica.{Replica, after_taking, submission_for}
use Rattle.dt_cluster.specs.declared.Cluster.{Cluster}
use Rattle.dt_workload.specs.declared.Ranked.{Ranked}
use Rattle.dt_workload.specs.declared.Session.{Session}
use Rattle.dt_workload.specs.declared.Workload.{Workload}
use Rattle.dt_session.specs.World.{World, Node, Place, Submission, no_node, node_at, with_node, with_place, log_of}
use Rattle.dt_session.specs.Step.{body_of, next_attempt, attempt_for, node_submitted, world_submitted, placed, received, answered}
use Rattle.dt_merge.specs.OwnPart.{Own, own, places_at}
use Rattle.dt_merge.proofs.OwnParts.{local, changed_own}

-- the attempt that a session makes by what is its region's own
abbrev pub attempt_of_own : Cluster → ℕ → Session → Place → Ranked → Own → ℕ → Submission
attempt_of_own cluster region session place call o attempt = record {
  txn = submission_for cluster.procs region (length o.node.submitted) o.node.here call.rank (body_of call.wanted);
  session = session.name;
  call = place.answered + 1;
  attempt = attempt;
}

abbrev pub submit_own : Cluster → Workload → ℕ → Session → Place → Ranked → Own → ℕ → Own
submit_own cluster workload region session place call o attempt = record {
  node = node_submitted o.node (attempt_of_own cluster region session place call o attempt);
  places = with_place (local region workload.sessions) o.places region session.name (record place { waits = Some (attempt_of_own cluster region session place call o attempt).txn.id });
}

abbrev pub append_own : ℕ → ℕ → Own → Bool → Option Txn → Own
append_own home source o false t = o
append_own home source o true None = o
append_own home source o true (Some txn) = record o { node = record o.node { log = o.node.log ++ part_of txn home ∷ []; here = after_taking o.node.here source } }

-- how long a front of a home's log a region received
abbrev pub received_own : ℕ → Own → ℕ → ℕ
received_own region o home = slice_index (set o.node.received region (length o.node.log)) home

abbrev pub deliver_own : ℕ → ℕ → Own → Bool → Own
deliver_own home last o false = o
deliver_own home last o true = record o { node = record o.node { received = set o.node.received home last } }

abbrev pub move_own : Own → Replica → Own
move_own o here = record o { node = record o.node { here = here } }

abbrev pub answer_own : Workload → ℕ → Session → Place → Own → Own
answer_own workload region session place o = record o { places = with_place (local region workload.sessions) o.places region session.name (record { answered = place.answered + 1; waits = None }) }

module _ (cluster : Cluster) (workload : Workload) (w : World) (region : ℕ) where
  pub own_answered : (session : Session) (place : Place) → own workload (answered workload w region (Some (session, place))) region ≡ answer_own workload region session place (own workload w region)
  own_answered session place = λ k. record {
    node = node_at w region;
    places = changed_own workload.sessions w.places region session.name (record { answered = place.answered + 1; waits = None }) k;
  }

  module _ (lt : region < length w.nodes) where
    own_set : (node : Node) → own workload (with_node w region node) region ≡ record { node = node; places = places_at region workload.sessions w.places }
    own_set node = λ k. record { node = get_or-set_same w.nodes region node no_node lt k; places = places_at region workload.sessions w.places }

    pub own_submitted : (session : Session) (place : Place) (call : Ranked)
        → own workload (world_submitted workload w region session place (attempt_for cluster w region session place call)) region
        ≡ submit_own cluster workload region session place call (own workload w region) (next_attempt w place.waits)
    own_submitted session place call = λ k. record {
      node = get_or-set_same w.nodes region (node_submitted (node_at w region) (attempt_for cluster w region session place call)) no_node lt k;
      places = changed_own workload.sessions w.places region session.name (record place { waits = Some (attempt_for cluster w region session place call).txn.id }) k;
    }

    pub own_appended : (source : ℕ) (b : Bool) (t : Option Txn) → own workload (cond b (placed w region source t) w) region ≡ append_own region source (own workload w region) b t
    own_appended source false t = refl
    own_appended source true None = refl
    own_appended source true (Some txn) = own_set (record (node_at w region) { log = log_of w region ++ part_of txn region ∷ []; here = after_taking (node_at w region).here source })

    pub own_delivered : (home last : ℕ) (b : Bool) → own workload (cond b (received w region home last) w) region ≡ deliver_own home last (own workload w region) b
    own_delivered home last false = refl
    own_delivered home last true = own_set (record (node_at w region) { received = set (node_at w region).received home last })

    pub own_moved : (here : Replica) → own workload (with_node w region (record (node_at w region) { here = here })) region ≡ move_own (own workload w region) here
    own_moved here = own_set (record (node_at w region) { here = here })
