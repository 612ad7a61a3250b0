-- An answer keeps the invariant.
use Rattle.std.proofs.Common.{◌≡◌, ◌<◌, ◌≤◌, ◌+◌, ℕ, List, length, Some, None, refl, sym, subst, arith}
use Rattle.std.specs.Prelude.{Option}
use Rattle.dt_lists.specs.Lists.{Has}
use Rattle.dt_access.specs.Clash.{Bytes}
use Rattle.dt_access.specs.declared.TxnId.{TxnId}
use Rattle.dt_cluster.specs.declared.Cluster.{Cluster}
use Rattle.dt_workload.specs.declared.Workload.{Workload}
use Rattle.dt_workload.specs.declared.Session.{Session}
use Rattle.dt_workload.specs.Valid.{IsValidWorkload}
use Rattle.dt_session.specs.World.{World, Place, node_at, session_at}
use Rattle.dt_session.specs.Step.{MayAnswer, MayEnd, answered, awaited_at}
use Rattle.dt_agreement.specs.Invariant.{IsPlaced, IsPlaceOf, Inv}
use Rattle.dt_agreement.proofs.InvariantParts.{logs_kept, lengths_kept, ordered_kept}
use Rattle.dt_agreement.proofs.Sessions.{session_found, place_changed}

-- a session that is answered has not more answered calls than calls, and made not too many attempts
placed_answered : (tries : ℕ) (cluster : Cluster) (w : World) (region : ℕ) (session : Session) (place : Place) → MayEnd cluster.tries (awaited_at w region place.waits)
    → IsPlaceOf tries w session place → IsPlaceOf tries w session (record { answered = place.answered + 1; waits = None })
placed_answered tries cluster w region session place may p = go place.waits may p.placed
  where
    go : (waits : Option TxnId) → MayEnd cluster.tries (awaited_at w region waits) → IsPlaced tries (node_at w session.region).submitted session place.answered waits
        → IsPlaceOf tries w session (record { answered = place.answered + 1; waits = None })
    go None m q = absurd m
    go (Some id) m q =
        let call : place.answered < length session.calls = q.call in
        let attempt : q.submission.attempt ≤ tries = q.attempt_to in
        record { answered = omega arith; placed = omega (arith, q.attempts) }

pub answer_keeps : {cluster : Cluster} {workload : Workload} {w : World} {order : List TxnId} → Inv cluster workload w order → IsValidWorkload cluster workload
    → (region : ℕ) (name : Bytes) → MayAnswer cluster w region (session_at workload.sessions w.places region name)
    → Inv cluster workload (answered workload w region (session_at workload.sessions w.places region name)) order
answer_keeps {cluster = cluster} {workload = workload} {w = w} {order = order} i valid region name may = go (session_at workload.sessions w.places region name) refl may
  where
    go : (o : Option (Session × Place)) → session_at workload.sessions w.places region name ≡ o → MayAnswer cluster w region o → Inv cluster workload (answered workload w region o) order
    go None e m = absurd m
    go (Some (session, place)) e m = record {
      nodes = i.nodes;
      sized = i.sized;
      ids = i.ids;
      valid = i.valid;
      asked = i.asked;
      logs = logs_kept cluster w v cluster.regions (λ r. refl) (λ r. refl) (λ r. refl) (λ r. refl) i.logs;
      lengths = lengths_kept cluster w v cluster.regions (λ r. refl) (λ r. refl) (λ r. refl) i.lengths;
      sound = i.sound;
      tables = i.tables;
      ordered = ordered_kept cluster w v cluster.regions order refl (λ r. refl) i.ordered;
      sessions = record {
        places = place_changed (IsPlaceOf cluster.tries w) (IsPlaceOf cluster.tries v) workload.sessions w.places region session.name session place (record { answered = place.answered + 1; waits = None })
            valid.names_once now (λ t x n p. record { answered = p.answered; placed = p.placed }) i.sessions.places
            found;
        known = i.sessions.known;
      };
    }
      where
        v : World
        v = answered workload w region (Some (session, place))

        r : Has workload.sessions session × (session.name ≡ name) × (session.region ≡ region) × IsPlaceOf cluster.tries w session place
        r = session_found (IsPlaceOf cluster.tries w) workload.sessions w.places region name session place i.sessions.places e

        found : session_at workload.sessions w.places region session.name ≡ Some (session, place)
        found = subst (λ n. session_at workload.sessions w.places region n ≡ Some (session, place)) (sym r.1) e

        now : IsPlaceOf cluster.tries v session (record { answered = place.answered + 1; waits = None })
        now =
            let p : IsPlaceOf cluster.tries w session (record { answered = place.answered + 1; waits = None }) = placed_answered cluster.tries cluster w region session place m r.3 in
            record { answered = p.answered; placed = p.placed }
