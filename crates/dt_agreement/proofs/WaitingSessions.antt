-- Sessions that wait, in a world that keeps the invariant: the attempt that one waits for is found, is of its own region and
-- of its next call.
use Rattle.std.proofs.Common.{◌≡◌, ◌<◌, ◌≤◌, ◌+◌, ℕ, List, length, slice_get, Some, sym, ap, subst, ◌∙◌}
use Rattle.std.specs.Prelude.{option_map, unwrap_or}
use Rattle.dt_lists.specs.Lists.{Has}
use Rattle.dt_lists.proofs.Callers.{place_of}
use Rattle.dt_lists.proofs.Callers.{pairwise_length}
use Rattle.dt_access.specs.declared.TxnId.{TxnId}
use Rattle.dt_cluster.specs.declared.Cluster.{Cluster}
use Rattle.dt_workload.specs.declared.Session.{Session}
use Rattle.dt_workload.specs.declared.Workload.{Workload}
use Rattle.dt_session.specs.World.{World, Place, Submission, node_at, submission_of, attempt_of}
use Rattle.dt_agreement.specs.Invariant.{IsWaiting, IsPlaced, IsPlaceOf, Inv}
use Rattle.dt_agreement.proofs.Rule1Submit.{awaited_attempt}

-- a session waits for an attempt of its own region: its number, and that it is found
pub record WaitsAt (cluster : Cluster) (w : World) (session : Session) (place : Place) (id : TxnId) : Type 0 where
  pub region : id.region ≡ session.region
  pub submission : Submission
  pub found : submission_of w id ≡ Some submission
  pub there : Has (node_at w session.region).submitted submission
  pub name : submission.session ≡ session.name
  pub call : submission.call ≡ place.answered + 1
  pub left : place.answered < length session.calls
  pub attempt : attempt_of w id ≡ submission.attempt
  pub attempt_from : 1 ≤ submission.attempt
  pub attempt_to : submission.attempt ≤ cluster.tries

module _ {cluster : Cluster} {workload : Workload} {w : World} {order : List TxnId} (i : Inv cluster workload w order) where
  -- there is a place for each session
  pub places_parallel : length workload.sessions ≡ length w.places
  places_parallel = pairwise_length (IsPlaceOf cluster.tries w) workload.sessions w.places i.sessions.places

  -- a session that waits, waits for an attempt of its next call, of its own region
  pub waiting_for : (session : Session) (place : Place) (id : TxnId) → session.region < cluster.regions → IsPlaceOf cluster.tries w session place → place.waits ≡ Some id → WaitsAt cluster w session place id
  waiting_for session place id lr p e = of_waiting (subst (IsPlaced cluster.tries (node_at w session.region).submitted session place.answered) e p.placed)
    where
      of_waiting : IsWaiting cluster.tries (node_at w session.region).submitted session place.answered id → WaitsAt cluster w session place id
      of_waiting q =
          let found : submission_of w id ≡ Some q.submission = awaited_attempt i cluster.tries session.region place.answered session id q in
          let at : (j : ℕ) × (slice_get (node_at w session.region).submitted j ≡ Some q.submission) = place_of (node_at w session.region).submitted q.submission q.there in
          record {
            region = ap (λ x. x.region) (sym q.same ∙ i.ids session.region lr at.0 q.submission at.1);
            submission = q.submission;
            found = found;
            there = q.there;
            name = q.name;
            call = q.number;
            left = q.call;
            attempt = ap (λ o. unwrap_or (option_map (λ s. s.attempt) o) 0) found;
            attempt_from = q.attempt_from;
            attempt_to = q.attempt_to;
          }
