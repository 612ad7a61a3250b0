-- A resolution keeps the invariant.
use Rattle.std.proofs.Common.{◌≡◌, ◌<◌, ℕ, List, [], ◌∷◌, ◌++◌, refl, sym, subst, inl, inr}
use Rattle.dt_lists.specs.Lists.{Either}
use Rattle.dt_lists.proofs.Callers.{either_nat}
use Rattle.dt_access.specs.declared.TxnId.{TxnId}
use Rattle.dt_sched.specs.Decide.{IsSound}
use Rattle.dt_sched.proofs.Callers.{sound_resolve}
use Rattle.dt_events.specs.declared.Event.TheVariants.{Resolve}
use Rattle.dt_txn.specs.Replica.{MayStep, done_ids}
use Rattle.dt_cluster.specs.declared.Cluster.{Cluster}
use Rattle.dt_workload.specs.declared.Workload.{Workload}
use Rattle.dt_session.specs.World.{World, Node, node_at, received_logs, view_at}
use Rattle.dt_session.specs.Step.{moved_on}
use Rattle.dt_agreement.specs.Invariant.{Inv}
use Rattle.dt_agreement.proofs.InvariantParts.{Sound, lengths_kept, view_kept, tables_kept, ordered_kept}
use Rattle.dt_agreement.proofs.OneRegion.{Leaves, change_keeps, leaves}

module _ {cluster : Cluster} {workload : Workload} {w : World} {order : List TxnId} (i : Inv cluster workload w order)
    (region : ℕ) (ids : List TxnId) (lr : region < cluster.regions) (may : MayStep (received_logs w region) (node_at w region).here (Resolve region ids)) where
  n' : Node
  n' = record (node_at w region) { here = record (node_at w region).here { resolved = (node_at w region).here.resolved ++ ids ∷ [] } }

  v : World
  v = moved_on cluster w region (Resolve region ids)

  left : Leaves cluster w v region n'
  unfolding v n'
  left = leaves i region lr n' (record { submitted = refl; log = refl; asked = refl; taken = refl })

  view_same : (q : ℕ) → view_at v q ≡ view_at w q
  unfolding n'
  view_same q = view_kept cluster w v left.logs (left.keeps (λ n. n.here.inserted) refl) (left.keeps (λ n. n.received) refl) (left.keeps (λ n. n.log) refl) q

  sound : Sound cluster.regions v
  unfolding v n'
  sound q lq = subst (λ x. IsSound x (node_at v q).here.resolved (done_ids (node_at v q).here)) (sym (view_same q)) (by (either_nat q region))
    where
      by : Either (q ≡ region) → IsSound (view_at w q) (node_at v q).here.resolved (done_ids (node_at v q).here)
      by (inr n) = subst (λ x. IsSound (view_at w q) x.here.resolved (done_ids x.here)) (sym (left.others q n)) (i.sound q lq)
      by (inl e) = subst (λ y. IsSound (view_at w y) (node_at v y).here.resolved (done_ids (node_at v y).here)) (sym e)
          (subst (λ x. IsSound (view_at w region) x.here.resolved (done_ids x.here)) (sym left.node)
          (sound_resolve (view_at w region) (node_at w region).here.resolved (done_ids (node_at w region).here) ids may (i.sound region lr)))

  pub resolve_keeps : Inv cluster workload (moved_on cluster w region (Resolve region ids)) order
  unfolding v n'
  resolve_keeps = change_keeps i region lr n' left.same order (record {
    received = (i.sized region lr).received;
    inserted = (i.sized region lr).inserted;
    lengths = lengths_kept cluster w v cluster.regions (left.keeps (λ n. n.here.inserted) refl) (left.keeps (λ n. n.received) refl) (left.keeps (λ n. n.log) refl) i.lengths;
    sound = sound;
    tables = tables_kept cluster w v (λ q lq. left.txns (done_ids (node_at w q).here)) (left.keeps (λ n. n.here.done) refl) (left.keeps (λ n. n.here.table) refl) i.tables;
    ordered = ordered_kept cluster w v cluster.regions order left.logs (left.keeps (λ n. n.here.done) refl) i.ordered;
  })
