-- What regions know in a world that keeps the invariant: all that is in their views was submitted, and what is closed in a
-- view is closed in the whole logs.
use Rattle.std.proofs.Common.{◌≡◌, ◌<◌, ◌≤◌, ◌↔◌, ℕ, List, [], length, Some, sym, subst}
use Rattle.dt_lists.specs.Lists.{AllIn, Distinct, Has}
use Rattle.dt_lists.proofs.Callers.{any_at, any_image, all_get, all_put}
use Rattle.dt_access.specs.declared.TxnId.{TxnId}
use Rattle.dt_sched.specs.Views.{ids_of, log_at, HasPart, IsLonger, IsPresent, IsClosed, Precedes, IsWellFormed}
use Rattle.dt_sched.proofs.Callers.{complete_of_closed, closed_stays, preceders_stay, present_of_complete, well_formed_front}
use Rattle.dt_txn.specs.declared.Txn.{Txn}
use Rattle.dt_txn.specs.Transaction.{IsValid}
use Rattle.dt_txn.specs.Replica.{fronts, done_ids}
use Rattle.dt_cluster.specs.declared.Cluster.{Cluster}
use Rattle.dt_workload.specs.declared.Workload.{Workload}
use Rattle.dt_session.specs.World.{World, Submission, node_at, logs_of, log_of, received_of, submissions, view_at, txn_of}
use Rattle.dt_agreement.specs.Invariant.{Inv, IsExecutedAt}
use Rattle.dt_agreement.proofs.Submissions.{WasSubmitted, home_region, txn_id, txn_there}
use Rattle.dt_agreement.proofs.Views.{view_is, fronts_longer, log_is, logs_length}
use Rattle.dt_agreement.proofs.Logs.{id_known, log_once, logs_well_formed}

module _ {cluster : Cluster} {workload : Workload} {w : World} {order : List TxnId} (i : Inv cluster workload w order) where
  -- the view of a region is a front of each log, as long as it inserted
  pub view_fronts : (region : ℕ) → region < cluster.regions → view_at w region ≡ fronts (node_at w region).here.inserted (logs_of w)
  view_fronts region lt = view_is w region (λ home lh. (i.lengths region home lt (subst (λ n. home < n) i.nodes lh)).inserted)

  pub view_longer : (region : ℕ) → region < cluster.regions → IsLonger (view_at w region) (logs_of w)
  view_longer region lt = subst (λ v. IsLonger v (logs_of w)) (sym (view_fronts region lt)) (fronts_longer (node_at w region).here.inserted (logs_of w))

  pub full_well_formed : IsWellFormed (logs_of w)
  full_well_formed = logs_well_formed cluster.regions w i.nodes i.ids i.asked i.logs

  pub view_well_formed : (region : ℕ) → region < cluster.regions → IsWellFormed (view_at w region)
  view_well_formed region lt = well_formed_front (view_at w region) (logs_of w) (view_longer region lt) full_well_formed

  -- what has a part in a log was submitted
  pub present_known : (t : TxnId) → IsPresent (logs_of w) t → WasSubmitted w t
  present_known t p =
      let r : (home : ℕ) × (home < length (logs_of w)) × HasPart (log_at (logs_of w) home) t = any_at (λ log. HasPart log t) [] (logs_of w) p in
      let within : r.0 < length w.nodes = subst (λ n. r.0 < n) (logs_length w) r.1 in
      let there : HasPart (log_of w r.0) t = subst (λ l. HasPart l t) (log_is w r.0) r.2 in
      let k : (txn : _) × (txn_of w t ≡ _) × (t.region < cluster.regions) = id_known cluster.regions w i.nodes i.ids i.asked i.logs r.0 t
      (subst (λ n. r.0 < n) i.nodes within) (any_image (λ y. y ≡ t) (λ p. p.id) (log_of w r.0) there) in
      (k.0, k.1)

  pub closed_full : (region : ℕ) (t : TxnId) → region < cluster.regions → IsClosed (view_at w region) t → IsClosed (logs_of w) t
  closed_full region t lt c = closed_stays (view_at w region) (logs_of w) (view_longer region lt) full_well_formed t c

  pub precedes_full : (region : ℕ) (u t : TxnId) → region < cluster.regions → IsClosed (view_at w region) t → Precedes (view_at w region) u t ↔ Precedes (logs_of w) u t
  precedes_full region u t lt c = preceders_stay (view_at w region) (logs_of w) (view_longer region lt) full_well_formed u t c

  pub closed_known : (t : TxnId) → IsClosed (logs_of w) t → WasSubmitted w t
  closed_known t c = present_known t (present_of_complete (logs_of w) t (complete_of_closed (logs_of w) t c))

  -- what a region executed is closed in its view, so it was submitted
  pub executed_closed : (region : ℕ) (t : TxnId) → region < cluster.regions → IsExecutedAt w region t → IsClosed (view_at w region) t
  executed_closed region t lt h = all_get (IsClosed (view_at w region)) (done_ids (node_at w region).here) (i.sound region lt).done_closed t h

  pub done_known : (region : ℕ) → region < cluster.regions → AllIn (WasSubmitted w) (done_ids (node_at w region).here)
  done_known region lt = all_put (WasSubmitted w) (done_ids (node_at w region).here) (λ t h. closed_known t (closed_full region t lt (executed_closed region t lt h)))

  -- what stands in the order is closed in the logs, so it was submitted
  pub order_closed : (t : TxnId) → Has order t → IsClosed (logs_of w) t
  order_closed t h = let r : (region : ℕ) × (region < cluster.regions) × IsExecutedAt w region t = (i.ordered.executed t).0 h in closed_full r.0 t r.1 (executed_closed r.0 t r.1 r.2)

  pub order_known : AllIn (WasSubmitted w) order
  order_known = all_put (WasSubmitted w) order (λ t h. closed_known t (order_closed t h))

  -- the ids in a log are distinct
  pub log_distinct : (home : ℕ) → home < cluster.regions → Distinct (ids_of (log_of w home))
  log_distinct home lt = log_once cluster.regions w i.nodes i.ids i.asked i.logs home lt

  -- a region received no more of a log than there is
  pub received_within : (region home : ℕ) → region < cluster.regions → home < cluster.regions → received_of w region home ≤ length (log_of w home)
  received_within region home lr lh = (i.lengths region home lr lh).received

  -- a submitted transaction is valid, and has the id by which it is found
  pub transaction_valid : (id : TxnId) (txn : Txn) → txn_of w id ≡ Some txn → IsValid cluster.procs cluster.version cluster.regions txn × (txn.id ≡ id) × (id.region < cluster.regions)
  transaction_valid id txn e =
      let r : (s : Submission) × Has (submissions w) s × (s.txn ≡ txn) × (s.txn.id ≡ id) = txn_there w id txn e in (
        subst (IsValid cluster.procs cluster.version cluster.regions) r.2 (all_get (λ s. IsValid cluster.procs cluster.version cluster.regions s.txn) (submissions w) i.valid r.0 r.1),
        txn_id w id txn e,
        subst (λ x. x.region < cluster.regions) r.3 (home_region cluster.regions w i.nodes i.ids r.0 r.1).0,
      )
