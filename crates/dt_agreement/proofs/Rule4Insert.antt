-- An insertion keeps the invariant.
use Rattle.std.proofs.Common.{◌≡◌, ◌<◌, ◌≤◌, ◌+◌, ℕ, min, List, length, set, refl, sym, ap, subst, ◌∙◌, inl, inr, arith}
use Rattle.std.specs.Prelude.{slice_index}
use Rattle.std.proofs.lemmas.List.{length-set, length-take, get_or-set_same, get_or-set_other}
use Rattle.dt_lists.specs.Lists.{Either}
use Rattle.dt_lists.proofs.Callers.{either_nat}
use Rattle.dt_access.specs.declared.TxnId.{TxnId}
use Rattle.dt_sched.specs.Views.{log_at, IsLonger}
use Rattle.dt_sched.specs.Decide.{IsSound}
use Rattle.dt_sched.proofs.Callers.{well_formed_front}
use Rattle.dt_sched.proofs.Callers.{sound_longer}
use Rattle.dt_events.specs.declared.Event.TheVariants.{Insert}
use Rattle.dt_txn.specs.Replica.{MayStep, fronts, done_ids}
use Rattle.dt_cluster.specs.declared.Cluster.{Cluster}
use Rattle.dt_workload.specs.declared.Workload.{Workload}
use Rattle.dt_session.specs.World.{World, Node, node_at, log_of, logs_of, received_of, received_logs, view_at}
use Rattle.dt_session.specs.Step.{moved_on}
use Rattle.dt_agreement.specs.Invariant.{AreInOrder, Inv}
use Rattle.dt_agreement.proofs.InvariantParts.{Lengths, Sound, received_kept, tables_kept, ordered_kept}
use Rattle.dt_agreement.proofs.OneRegion.{Leaves, change_keeps, leaves}
use Rattle.dt_agreement.proofs.Views.{view_is, logs_length, fronts_more, fronts_longer, received_log}
use Rattle.dt_agreement.proofs.RegionViews.{view_fronts, full_well_formed}

module _ {cluster : Cluster} {workload : Workload} {w : World} {order : List TxnId} (i : Inv cluster workload w order)
    (region home : ℕ) (lr : region < cluster.regions) (lh : home < cluster.regions) (may : MayStep (received_logs w region) (node_at w region).here (Insert region home)) where
  ins : List ℕ
  ins = (node_at w region).here.inserted

  ins' : List ℕ
  ins' = set (node_at w region).here.inserted home (slice_index (node_at w region).here.inserted home + 1)

  n' : Node
  unfolding ins'
  n' = record (node_at w region) { here = record (node_at w region).here { inserted = ins' } }

  v : World
  v = moved_on cluster w region (Insert region home)

  left : Leaves cluster w v region n'
  unfolding v n'
  left = leaves i region lr n' (record { submitted = refl; log = refl; asked = refl; taken = refl })

  sizes : length (node_at w region).here.inserted ≡ cluster.regions
  sizes = (i.sized region lr).inserted

  -- there was more to insert
  more : slice_index (node_at w region).here.inserted home < received_of w region home
  more =
      let cut : length (log_at (received_logs w region) home) ≡ min (received_of w region home) (length (log_of w home)) = ap length (received_log w region home) ∙ length-take (received_of w region home) (log_of w home) in
      omega (arith, may)

  lengths_here : (other : ℕ) → other < cluster.regions → (slice_index ins' other ≤ received_of w region other) × (slice_index ins other ≤ slice_index ins' other)
  unfolding ins ins'
  lengths_here other lo = by (either_nat other home)
    where
      before : AreInOrder w region other
      before = i.lengths region other lr lo

      had : List ℕ
      had = (node_at w region).here.inserted

      has : List ℕ
      has = set had home (slice_index had home + 1)

      by : Either (other ≡ home) → (slice_index has other ≤ received_of w region other) × (slice_index had other ≤ slice_index has other)
      by (inl e) = subst (λ x. (slice_index has x ≤ received_of w region x) × (slice_index had x ≤ slice_index has x)) (sym e)
          (let now : slice_index has home ≡ slice_index had home + 1 = get_or-set_same had home (slice_index had home + 1) 0 (subst (λ m. home < m) (sym sizes) lh) in
          (omega (arith, more), omega arith))
      by (inr n) =
          let now : slice_index has other ≡ slice_index had other = get_or-set_other had home other (slice_index had home + 1) 0 n in
          (omega (arith, before.inserted), omega arith)

  received_same : (q other : ℕ) → received_of v q other ≡ received_of w q other
  received_same q other = received_kept cluster w v (left.keeps (λ n. n.received) (unfold n' in refl)) (left.keeps (λ n. n.log) (unfold n' in refl)) q other

  lengths : Lengths cluster.regions v
  unfolding n' ins'
  lengths q other lq lo = by (either_nat q region)
    where
      before : AreInOrder w q other
      before = i.lengths q other lq lo

      log : length (log_of v other) ≡ length (log_of w other)
      log = ap length (left.keeps (λ n. n.log) refl other)

      by : Either (q ≡ region) → AreInOrder v q other
      by (inl e) = subst (λ x. AreInOrder v x other) (sym e) (
          let inserted : slice_index (node_at v region).here.inserted other ≡ slice_index ins' other = ap (λ n. slice_index n.here.inserted other) left.node in
          let same : received_of v region other ≡ received_of w region other = received_same region other in
          let was : received_of w region other ≤ length (log_of w other) = (i.lengths region other lr lo).received in
          record { inserted = omega (arith, (lengths_here other lo).0, inserted, same); received = omega (arith, log, same, was) })
      by (inr n) =
          let inserted : slice_index (node_at v q).here.inserted other ≡ slice_index (node_at w q).here.inserted other = ap (λ x. slice_index x.here.inserted other) (left.others q n) in
          let same : received_of v q other ≡ received_of w q other = received_same q other in
          record { inserted = omega (arith, before.inserted, inserted, same); received = omega (arith, log, same, before.received) }

  view_now : (q : ℕ) → q < cluster.regions → view_at v q ≡ fronts (node_at v q).here.inserted (logs_of w)
  view_now q lq = view_is v q (λ other lo. (lengths q other lq (subst (λ m. other < m) left.nodes lo)).inserted) ∙ ap (fronts (node_at v q).here.inserted) left.logs

  sound : Sound cluster.regions v
  unfolding n' ins
  sound q lq = by (either_nat q region)
    where
      before : IsSound (view_at w q) (node_at w q).here.resolved (done_ids (node_at w q).here)
      before = i.sound q lq

      by : Either (q ≡ region) → IsSound (view_at v q) (node_at v q).here.resolved (done_ids (node_at v q).here)
      by (inr n) =
          let same : node_at v q ≡ node_at w q = left.others q n in
          subst (λ x. IsSound x (node_at v q).here.resolved (done_ids (node_at v q).here)) (sym (view_now q lq ∙ ap (λ x. fronts x.here.inserted (logs_of w)) same ∙ sym (view_fronts i q lq)))
          (subst (λ x. IsSound (view_at w q) x.here.resolved (done_ids x.here)) (sym same) before)
      by (inl e) = subst (λ x. IsSound (view_at v x) (node_at v x).here.resolved (done_ids (node_at v x).here)) (sym e) (
          let long : view_at v region ≡ fronts ins' (logs_of w) = view_now region lr ∙ ap (λ x. fronts x.here.inserted (logs_of w)) left.node in
          let longer : IsLonger (view_at w region) (fronts ins' (logs_of w)) =
          subst (λ x. IsLonger x (fronts ins' (logs_of w))) (sym (view_fronts i region lr))
          (fronts_more (node_at w region).here.inserted ins' (logs_of w) (λ other lo. (lengths_here other (subst (λ m. other < m) i.nodes (subst (λ m. other < m) (logs_length w) lo))).1)) in
          subst (λ x. IsSound x (node_at v region).here.resolved (done_ids (node_at v region).here)) (sym long)
          (subst (λ x. IsSound (fronts ins' (logs_of w)) x.here.resolved (done_ids x.here)) (sym left.node)
          (sound_longer (view_at w region) (fronts ins' (logs_of w)) longer
          (well_formed_front (fronts ins' (logs_of w)) (logs_of w) (fronts_longer ins' (logs_of w)) (full_well_formed i))
          (node_at w region).here.resolved (done_ids (node_at w region).here) (i.sound region lr))))

  pub insert_keeps : Inv cluster workload (moved_on cluster w region (Insert region home)) order
  unfolding v n'
  insert_keeps = change_keeps i region lr n' left.same order (record {
    received = (i.sized region lr).received;
    inserted = unfold ins' in length-set (node_at w region).here.inserted home (slice_index (node_at w region).here.inserted home + 1) ∙ sizes;
    lengths = lengths;
    sound = sound;
    tables = tables_kept cluster w v (λ q lq. left.txns (done_ids (node_at w q).here)) (left.keeps (λ n. n.here.done) refl) (left.keeps (λ n. n.here.table) refl) i.tables;
    ordered = ordered_kept cluster w v cluster.regions order left.logs (left.keeps (λ n. n.here.done) refl) i.ordered;
  })
