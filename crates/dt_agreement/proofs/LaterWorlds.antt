-- What legal events leave of ids: a submission stays the one of its id, and so does its transaction; and what a region has
-- executed goes on where it ended.
use Rattle.std.proofs.Common.{◌≡◌, ℕ, Bool, true, false, cond, ltb, leb, ◌&&◌, List, [], ◌∷◌, ◌++◌, set, Some, None, refl, sym, subst, ◌∙◌, inl, inr, append_assoc, append-nil}
use Rattle.std.specs.Prelude.{Option}
use Rattle.dt_lists.specs.Lists.{IsFront}
use Rattle.dt_lists.proofs.Callers.{field_of_set, front_refl, front_trans}
use Rattle.dt_access.specs.declared.TxnId.{TxnId}
use Rattle.dt_events.specs.declared.Event.{Event}
use Rattle.dt_events.specs.declared.Event.TheVariants.{Submit, Append, Deliver, Insert, Resolve, Execute, Answer}
use Rattle.dt_txn.specs.declared.Txn.{Txn}
use Rattle.dt_txn.specs.Replica.{after_taking, done_ids, stepped}
use Rattle.dt_txn.specs.Transaction.{part_of}
use Rattle.dt_cluster.specs.declared.Cluster.{Cluster}
use Rattle.dt_cluster.specs.Valid.{IsValidCluster}
use Rattle.dt_workload.specs.declared.Session.{Session}
use Rattle.dt_workload.specs.declared.Workload.{Workload}
use Rattle.dt_workload.specs.Valid.{IsValidWorkload}
use Rattle.dt_session.specs.World.{World, Place, Submission, log_of, no_node, node_at, received_of, submission_of, txn_of, session_at}
use Rattle.dt_session.specs.Step.{IsLegal, placed, received, moved_on, answered, next, node_submitted}
use Rattle.dt_session.specs.Run.{world_after, order_of}
use Rattle.dt_agreement.specs.LegalRun.{IsLegalRun}
use Rattle.dt_agreement.specs.Invariant.{Inv}
use Rattle.dt_agreement.proofs.Submissions.{WasSubmitted, Keeps, submission_same, txn_stays}
use Rattle.dt_agreement.proofs.Rule1Submit.{Submits, attempt_made, next_call_submits, made_found}
use Rattle.dt_agreement.proofs.Rule2Append.{append_cases, submitted_placed}
use Rattle.dt_agreement.proofs.Rule6Execute.{executable_known, executed_more}
use Rattle.dt_agreement.proofs.Runs.{world_after_more, run_front, run_more}
use Rattle.dt_agreement.proofs.LegalWorlds.{legal_keeps}

step_same : (cluster : Cluster) (w : World) (region : ℕ) (event : Event) → Keeps (λ n. n.submitted) w (moved_on cluster w region event)
step_same cluster w region event = field_of_set (λ n. n.submitted) w.nodes region (record (node_at w region) { here = stepped cluster.procs (txn_of w) (node_at w region).here event }) no_node refl

received_same : (w : World) (region home last : ℕ) → Keeps (λ n. n.submitted) w (received w region home last)
received_same w region home last = field_of_set (λ n. n.submitted) w.nodes region (record (node_at w region) { received = set (node_at w region).received home last }) no_node refl

deliver_same : (w : World) (region home last : ℕ) (b : Bool) → Keeps (λ n. n.submitted) w (cond b (received w region home last) w)
deliver_same w region home last true = received_same w region home last
deliver_same w region home last false = λ q. refl

answer_same : (workload : Workload) (w : World) (region : ℕ) (o : Option (Session × Place)) → Keeps (λ n. n.submitted) w (answered workload w region o)
answer_same workload w region None = λ q. refl
answer_same workload w region (Some (session, place)) = λ q. refl

module _ {cluster : Cluster} {workload : Workload} (ok : IsValidCluster cluster) (fits : IsValidWorkload cluster workload) where
  -- a legal event leaves the submissions of ids
  pub next_found : (w : World) (order : List TxnId) (event : Event) → IsLegal cluster workload w event → Inv cluster workload w order
      → (id : TxnId) (s : Submission) → submission_of w id ≡ Some s → submission_of (next cluster workload w event) id ≡ Some s
  next_found w order (Submit region name) l i id s e =
      let r : Submits cluster workload w region name = next_call_submits i ok region name l.allowed in
      subst (λ x. submission_of x id ≡ Some s) (sym r.next) (made_found i ok region name fits l.regions r id s e)
  next_found w order (Append home source number) l i id s e = elim (append_cases i home source number l.regions.0 l.regions.1 l.allowed) [
    | inl same ↦ subst (λ x. submission_of x id ≡ Some s) (sym same) e
    | inr r ↦ subst (λ x. submission_of x id ≡ Some s) (sym r.2)
        (submission_same w (placed w home source (Some r.0)) (submitted_placed i home source l.regions.0 l.regions.1 r.0 r.1.number r.1.request r.1.found) id ∙ e)
  ]
  next_found w order (Deliver region home first last) l i id s e =
      let moves : Bool = leb first (received_of w region home) && ltb (received_of w region home) last in
      submission_same w (next cluster workload w (Deliver region home first last)) (deliver_same w region home last moves) id ∙ e
  next_found w order (Insert region home) l i id s e = submission_same w (moved_on cluster w region (Insert region home)) (step_same cluster w region (Insert region home)) id ∙ e
  next_found w order (Resolve region ids) l i id s e = submission_same w (moved_on cluster w region (Resolve region ids)) (step_same cluster w region (Resolve region ids)) id ∙ e
  next_found w order (Execute region x) l i id s e = submission_same w (moved_on cluster w region (Execute region x)) (step_same cluster w region (Execute region x)) id ∙ e
  next_found w order (Answer region session) l i id s e =
      submission_same w (next cluster workload w (Answer region session)) (answer_same workload w region (session_at workload.sessions w.places region session)) id ∙ e

  -- and so their transactions
  pub next_txns : (w : World) (order : List TxnId) (event : Event) → IsLegal cluster workload w event → Inv cluster workload w order
      → (id : TxnId) (txn : Txn) → txn_of w id ≡ Some txn → txn_of (next cluster workload w event) id ≡ Some txn
  next_txns w order event l i = txn_stays w (next cluster workload w event) (next_found w order event l i)

-- so do all later ones
pub later_found : {cluster : Cluster} {workload : Workload} (xs ys : List Event) → IsLegalRun cluster workload (xs ++ ys) → (id : TxnId) (s : Submission)
    → submission_of (world_after cluster workload xs) id ≡ Some s → submission_of (world_after cluster workload (xs ++ ys)) id ≡ Some s
later_found {cluster = cluster} {workload = workload} xs [] run id s e = subst (λ l. submission_of (world_after cluster workload l) id ≡ Some s) (sym (append-nil xs)) e
later_found {cluster = cluster} {workload = workload} xs (y ∷ ys) run id s e =
    let all : IsLegalRun cluster workload (xs ++ y ∷ [] ++ ys) = subst (IsLegalRun cluster workload) (sym (append_assoc xs (y ∷ []) ys)) run in
    let more : IsLegalRun cluster workload xs × IsLegal cluster workload (world_after cluster workload xs) y = run_more (run_front (xs ++ y ∷ []) ys all).0 in
    let now : submission_of (world_after cluster workload (xs ++ y ∷ [])) id ≡ Some s = subst (λ w. submission_of w id ≡ Some s) (sym (world_after_more cluster workload xs y))
    (next_found run.sound run.fits (world_after cluster workload xs) (order_of xs) y more.1 (legal_keeps more.0) id s e) in
    subst (λ l. submission_of (world_after cluster workload l) id ≡ Some s) (append_assoc xs (y ∷ []) ys) (later_found (xs ++ y ∷ []) ys all id s now)

-- what a region has executed

abbrev IsDoneMore : World → World → ℕ → Type 0
IsDoneMore w v region = IsFront (done_ids (node_at w region).here) (done_ids (node_at v region).here)

done_kept : (w v : World) → Keeps (λ n. done_ids n.here) w v → (region : ℕ) → IsDoneMore w v region
done_kept w v k region = subst (IsFront (done_ids (node_at w region).here)) (sym (k region)) (front_refl (done_ids (node_at w region).here))

deliver_done : (w : World) (region home last : ℕ) (b : Bool) → Keeps (λ n. done_ids n.here) w (cond b (received w region home last) w)
deliver_done w region home last true = field_of_set (λ n. done_ids n.here) w.nodes region (record (node_at w region) { received = set (node_at w region).received home last }) no_node refl
deliver_done w region home last false = λ q. refl

answer_done : (workload : Workload) (w : World) (region : ℕ) (o : Option (Session × Place)) → Keeps (λ n. done_ids n.here) w (answered workload w region o)
answer_done workload w region None = λ q. refl
answer_done workload w region (Some (session, place)) = λ q. refl

-- a legal event leaves what a region has executed, or adds to it
next_done : {cluster : Cluster} {workload : Workload} → IsValidCluster cluster → (w : World) (order : List TxnId) (event : Event) → IsLegal cluster workload w event
    → Inv cluster workload w order → (region : ℕ) → IsDoneMore w (next cluster workload w event) region
next_done {cluster = cluster} {workload = workload} ok w order (Submit region name) l i =
    let r : Submits cluster workload w region name = next_call_submits i ok region name l.allowed in
    done_kept w (next cluster workload w (Submit region name)) (subst (Keeps (λ n. done_ids n.here) w) (sym r.next)
    (field_of_set (λ n. done_ids n.here) w.nodes region (node_submitted (node_at w region) (attempt_made r)) no_node refl))
next_done {cluster = cluster} {workload = workload} ok w order (Append home source number) l i =
    done_kept w (next cluster workload w (Append home source number)) (elim (append_cases i home source number l.regions.0 l.regions.1 l.allowed) [
      | inl same ↦ subst (Keeps (λ n. done_ids n.here) w) (sym same) (λ q. refl)
      | inr r ↦ subst (Keeps (λ n. done_ids n.here) w) (sym r.2) (field_of_set (λ n. done_ids n.here) w.nodes home
          (record (node_at w home) { log = log_of w home ++ part_of r.0 home ∷ []; here = after_taking (node_at w home).here source }) no_node refl)
    ])
next_done {cluster = cluster} {workload = workload} ok w order (Deliver region home first last) l i =
    done_kept w (next cluster workload w (Deliver region home first last)) (deliver_done w region home last (leb first (received_of w region home) && ltb (received_of w region home) last))
next_done {cluster = cluster} ok w order (Insert region home) l i =
    done_kept w (moved_on cluster w region (Insert region home))
    (field_of_set (λ n. done_ids n.here) w.nodes region (record (node_at w region) { here = stepped cluster.procs (txn_of w) (node_at w region).here (Insert region home) }) no_node refl)
next_done {cluster = cluster} ok w order (Resolve region ids) l i =
    done_kept w (moved_on cluster w region (Resolve region ids))
    (field_of_set (λ n. done_ids n.here) w.nodes region (record (node_at w region) { here = stepped cluster.procs (txn_of w) (node_at w region).here (Resolve region ids) }) no_node refl)
next_done ok w order (Execute region id) l i =
    let known : WasSubmitted w id = executable_known i region id l.regions l.allowed in
    executed_more i region id l.regions l.allowed known.0 known.1
next_done {cluster = cluster} {workload = workload} ok w order (Answer region session) l i =
    done_kept w (next cluster workload w (Answer region session)) (answer_done workload w region (session_at workload.sessions w.places region session))

-- and so do all later ones
pub later_done : {cluster : Cluster} {workload : Workload} (xs ys : List Event) → IsLegalRun cluster workload (xs ++ ys) → (region : ℕ)
    → IsDoneMore (world_after cluster workload xs) (world_after cluster workload (xs ++ ys)) region
later_done {cluster = cluster} {workload = workload} xs [] run region =
    let after : List Event → World = world_after cluster workload in
    subst (λ l. IsDoneMore (after xs) (after l) region) (sym (append-nil xs)) (front_refl (done_ids (node_at (after xs) region).here))
later_done {cluster = cluster} {workload = workload} xs (y ∷ ys) run region =
    let after : List Event → World = world_after cluster workload in
    let all : IsLegalRun cluster workload (xs ++ y ∷ [] ++ ys) = subst (IsLegalRun cluster workload) (sym (append_assoc xs (y ∷ []) ys)) run in
    let more : IsLegalRun cluster workload xs × IsLegal cluster workload (after xs) y = run_more (run_front (xs ++ y ∷ []) ys all).0 in
    let now : IsDoneMore (after xs) (after (xs ++ y ∷ [])) region =
    subst (λ w. IsDoneMore (after xs) w region) (sym (world_after_more cluster workload xs y))
    (next_done run.sound (after xs) (order_of xs) y more.1 (legal_keeps more.0) region) in
    subst (λ l. IsDoneMore (after xs) (after l) region) (append_assoc xs (y ∷ []) ys)
    (front_trans (done_ids (node_at (after xs) region).here) (done_ids (node_at (after (xs ++ y ∷ [])) region).here) (done_ids (node_at (after (xs ++ y ∷ [] ++ ys)) region).here) now (later_done (xs ++ y ∷ []) ys all region))
