-- An execution keeps the invariant; one of an id that no region has executed puts it at the end of the order.
use Rattle.std.proofs.Common.{◌≡◌, ◌<◌, ◌⊎◌, ℕ, List, [], ◌∷◌, ◌++◌, Some, refl, sym, ap, ap₂, subst, ◌∙◌, inl, inr}
use Rattle.std.specs.Prelude.{Option, filter_map}
use Rattle.std.proofs.lemmas.List.{map_push}
use Rattle.std.proofs.lemmas.List.Elements.{filter_map-append}
use Rattle.dt_lists.specs.Lists.{Has, Either, IsFront}
use Rattle.dt_lists.proofs.Callers.{either_nat}
use Rattle.dt_lists.proofs.Callers.{front_append, front_refl, has_more, has_last, has_longer}
use Rattle.dt_access.specs.declared.TxnId.{TxnId}
use Rattle.dt_sched.specs.Views.{Precedes}
use Rattle.dt_sched.specs.Decide.{IsSound}
use Rattle.dt_sched.proofs.Callers.{sound_execute}
use Rattle.dt_events.specs.declared.Event.TheVariants.{Execute}
use Rattle.dt_table.specs.Table.{Table}
use Rattle.dt_txn.specs.declared.Txn.{Txn}
use Rattle.dt_txn.specs.Execution.{one}
use Rattle.dt_txn.specs.Serial.{after}
use Rattle.dt_txn.specs.Replica.{Replica, MayStep, executed, done_ids}
use Rattle.dt_serial.specs.Order.{IsDown}
use Rattle.dt_serial.proofs.Callers.{down_push, outcomes_append, table_after_append}
use Rattle.dt_cluster.specs.declared.Cluster.{Cluster}
use Rattle.dt_workload.specs.declared.Workload.{Workload}
use Rattle.dt_session.specs.World.{World, Node, node_at, with_node, opening_table, logs_of, received_logs, view_at, txn_of}
use Rattle.dt_session.specs.Step.{moved_on}
use Rattle.dt_session.specs.Run.{txns_of}
use Rattle.dt_agreement.specs.Invariant.{IsRunOf, IsExecutedAt, IsOrder, Inv}
use Rattle.dt_agreement.proofs.InvariantParts.{Sound, Tables, lengths_kept, view_kept}
use Rattle.dt_agreement.proofs.OneRegion.{Leaves, change_keeps, leaves}
use Rattle.dt_agreement.proofs.Submissions.{WasSubmitted, txn_id}
use Rattle.dt_agreement.proofs.RegionViews.{closed_full, closed_known, precedes_full}

-- the transaction of an id at the end
pub txns_more : (w : World) (ids : List TxnId) (id : TxnId) (txn : Txn) → txn_of w id ≡ Some txn → txns_of w (ids ++ id ∷ []) ≡ txns_of w ids ++ txn ∷ []
txns_more w ids id txn e = filter_map-append (txn_of w) ids (id ∷ []) ∙ ap (λ l. txns_of w ids ++ l) (one_txn (txn_of w id) e)
  where
    one_txn : (o : Option Txn) → o ≡ Some txn → filter_map (λ (x : TxnId). o) (id ∷ []) ≡ txn ∷ []
    one_txn o is = rw is refl

-- one more step of a run
run_more : (cluster : Cluster) (start : Table) (txns : List Txn) (txn : Txn) (here : Replica) → IsRunOf cluster start txns here → IsRunOf cluster start (txns ++ txn ∷ []) (executed cluster.procs here (Some txn))
run_more cluster start txns txn here r = record {
  outcomes = ap₂ (λ l t. l ++ (txn.id, (one cluster.procs txn t).0) ∷ []) r.outcomes r.table ∙ sym (outcomes_append cluster.procs txns (txn ∷ []) start);
  table = ap (after cluster.procs txn) r.table ∙ sym (table_after_append cluster.procs txns (txn ∷ []) start);
}

module _ {cluster : Cluster} {workload : Workload} {w : World} {order : List TxnId} (i : Inv cluster workload w order)
    (region : ℕ) (id : TxnId) (lr : region < cluster.regions) (may : MayStep (received_logs w region) (node_at w region).here (Execute region id)) (txn : Txn) (found : txn_of w id ≡ Some txn) where
  n' : Node
  n' = record (node_at w region) { here = executed cluster.procs (node_at w region).here (Some txn) }

  v : World
  v = with_node w region (record (node_at w region) { here = executed cluster.procs (node_at w region).here (Some txn) })

  same_id : txn.id ≡ id
  same_id = txn_id w id txn found

  left : Leaves cluster w v region n'
  unfolding v n'
  left = leaves i region lr n' (record { submitted = refl; log = refl; asked = refl; taken = refl })

  view_same : (q : ℕ) → view_at v q ≡ view_at w q
  unfolding n'
  view_same q = view_kept cluster w v left.logs (left.keeps (λ n. n.here.inserted) refl) (left.keeps (λ n. n.received) refl) (left.keeps (λ n. n.log) refl) q

  -- what the region has executed now
  done_now : done_ids (node_at v region).here ≡ done_ids (node_at w region).here ++ id ∷ []
  unfolding n'
  done_now = ap (λ n. done_ids n.here) left.node ∙ map_push (λ d. d.0) (node_at w region).here.done (txn.id, (one cluster.procs txn (node_at w region).here.table).0) ∙ ap (λ x. done_ids (node_at w region).here ++ x ∷ []) same_id

  -- and the transactions of these
  txns_now : txns_of v (done_ids (node_at v region).here) ≡ txns_of w (done_ids (node_at w region).here) ++ txn ∷ []
  txns_now = left.txns (done_ids (node_at v region).here) ∙ ap (txns_of w) done_now ∙ txns_more w (done_ids (node_at w region).here) id txn found

  sound : Sound cluster.regions v
  unfolding n'
  sound q lq = subst (λ x. IsSound x (node_at v q).here.resolved (done_ids (node_at v q).here)) (sym (view_same q)) (by (either_nat q region))
    where
      by : Either (q ≡ region) → IsSound (view_at w q) (node_at v q).here.resolved (done_ids (node_at v q).here)
      by (inr n) = subst (λ x. IsSound (view_at w q) x.here.resolved (done_ids x.here)) (sym (left.others q n)) (i.sound q lq)
      by (inl e) = subst (λ y. IsSound (view_at w y) (node_at v y).here.resolved (done_ids (node_at v y).here)) (sym e)
          (subst (λ l. IsSound (view_at w region) (node_at v region).here.resolved l) (sym done_now)
          (subst (λ x. IsSound (view_at w region) x.here.resolved (done_ids (node_at w region).here ++ id ∷ [])) (sym left.node)
          (sound_execute (view_at w region) (node_at w region).here.resolved (done_ids (node_at w region).here) id may (i.sound region lr))))

  tables : Tables cluster v
  unfolding n'
  tables q lq = by (either_nat q region)
    where
      by : Either (q ≡ region) → IsRunOf cluster (opening_table cluster) (txns_of v (done_ids (node_at v q).here)) (node_at v q).here
      by (inr n) = subst (λ x. IsRunOf cluster (opening_table cluster) (txns_of v (done_ids x.here)) x.here) (sym (left.others q n))
          (subst (λ l. IsRunOf cluster (opening_table cluster) l (node_at w q).here) (sym (left.txns (done_ids (node_at w q).here))) (i.tables q lq))
      by (inl e) = subst (λ y. IsRunOf cluster (opening_table cluster) (txns_of v (done_ids (node_at v y).here)) (node_at v y).here) (sym e)
          (subst (λ l. IsRunOf cluster (opening_table cluster) l (node_at v region).here)
          (sym txns_now)
          (subst (λ x. IsRunOf cluster (opening_table cluster) (txns_of w (done_ids (node_at w region).here) ++ txn ∷ []) x.here) (sym left.node)
          (run_more cluster (opening_table cluster) (txns_of w (done_ids (node_at w region).here)) txn (node_at w region).here (i.tables region lr))))

  -- what regions have executed: as before, and this

  still : (q : ℕ) (x : TxnId) → IsExecutedAt w q x → IsExecutedAt v q x
  still q x h = by (either_nat q region)
    where
      by : Either (q ≡ region) → IsExecutedAt v q x
      by (inr n) = subst (λ y. Has (done_ids y.here) x) (sym (left.others q n)) h
      by (inl e) = subst (λ y. IsExecutedAt v y x) (sym e) (subst (λ l. Has l x) (sym done_now) (has_longer (done_ids (node_at w region).here) (id ∷ []) x (subst (λ y. IsExecutedAt w y x) e h)))

  this : IsExecutedAt v region id
  this = subst (λ l. Has l id) (sym done_now) (has_last (done_ids (node_at w region).here) id)

  was : (q : ℕ) (x : TxnId) → IsExecutedAt v q x → IsExecutedAt w q x ⊎ (id ≡ x)
  was q x h = by (either_nat q region)
    where
      by : Either (q ≡ region) → IsExecutedAt w q x ⊎ (id ≡ x)
      by (inr n) = inl (subst (λ y. Has (done_ids y.here) x) (left.others q n) h)
      by (inl e) = elim (has_more (done_ids (node_at w region).here) id x (subst (λ l. Has l x) done_now (subst (λ y. IsExecutedAt v y x) e h))) [
        | inl k ↦ inl (subst (λ y. IsExecutedAt w y x) (sym e) k)
        | inr k ↦ inr k
      ]

  ordered_again : Has order id → IsOrder cluster.regions v order
  ordered_again known = record {
    executed = λ x. (
      λ h. let r : (q : ℕ) × (q < cluster.regions) × IsExecutedAt w q x = (i.ordered.executed x).0 h in (r.0, r.1, still r.0 x r.2),
      λ r. elim (was r.0 x r.2) [ inl k ↦ (i.ordered.executed x).1 (r.0, r.1, k) | inr e ↦ subst (Has order) e known ],
    );
    down = subst (λ l. IsDown (Precedes l) order) (sym left.logs) i.ordered.down;
  }

  ordered_first : ¬ (Has order id) → IsOrder cluster.regions v (order ++ id ∷ [])
  ordered_first new = record {
    executed = λ x. (
      λ h. elim (has_more order id x h) [
        | inl k ↦ let r : (q : ℕ) × (q < cluster.regions) × IsExecutedAt w q x = (i.ordered.executed x).0 k in (r.0, r.1, still r.0 x r.2)
        | inr e ↦ (region, lr, subst (IsExecutedAt v region) e this)
      ],
      λ r. elim (was r.0 x r.2) [ inl k ↦ has_longer order (id ∷ []) x ((i.ordered.executed x).1 (r.0, r.1, k)) | inr e ↦ subst (Has (order ++ id ∷ [])) e (has_last order id) ],
    );
    down = subst (λ l. IsDown (Precedes l) (order ++ id ∷ [])) (sym left.logs) (down_push (Precedes (logs_of w)) order id i.ordered.down new
        (λ u p. (i.ordered.executed u).1 (region, lr, may.preceders u ((precedes_full i region u id lr may.closed).1 p))));
  }

  with_order : (later : List TxnId) → IsOrder cluster.regions v later → Inv cluster workload v later
  unfolding v n'
  with_order later o = change_keeps i region lr n' left.same later (record {
    received = (i.sized region lr).received;
    inserted = (i.sized region lr).inserted;
    lengths = lengths_kept cluster w v cluster.regions (left.keeps (λ n. n.here.inserted) refl) (left.keeps (λ n. n.received) refl) (left.keeps (λ n. n.log) refl) i.lengths;
    sound = sound;
    tables = tables;
    ordered = o;
  })

  world_is : v ≡ moved_on cluster w region (Execute region id)
  unfolding v
  world_is = ap (λ o. with_node w region (record (node_at w region) { here = executed cluster.procs (node_at w region).here o })) (sym found)

  -- the region ran one transaction more
  pub executed_txns : txns_of (moved_on cluster w region (Execute region id)) (done_ids (node_at (moved_on cluster w region (Execute region id)) region).here) ≡ txns_of w (done_ids (node_at w region).here) ++ txn ∷ []
  executed_txns = subst (λ x. txns_of x (done_ids (node_at x region).here) ≡ txns_of w (done_ids (node_at w region).here) ++ txn ∷ []) world_is txns_now

  -- and what each region has executed goes on where it ended
  pub executed_more : (q : ℕ) → IsFront (done_ids (node_at w q).here) (done_ids (node_at (moved_on cluster w region (Execute region id)) q).here)
  executed_more q = subst (λ x. IsFront (done_ids (node_at w q).here) (done_ids (node_at x q).here)) world_is (by (either_nat q region))
    where
      by : Either (q ≡ region) → IsFront (done_ids (node_at w q).here) (done_ids (node_at v q).here)
      by (inr n) = subst (λ x. IsFront (done_ids (node_at w q).here) (done_ids x.here)) (sym (left.others q n)) (front_refl (done_ids (node_at w q).here))
      by (inl e) = subst (λ y. IsFront (done_ids (node_at w y).here) (done_ids (node_at v y).here)) (sym e)
          (subst (IsFront (done_ids (node_at w region).here)) (sym done_now) (front_append (done_ids (node_at w region).here) (id ∷ [])))

  pub execute_again : Has order id → Inv cluster workload (moved_on cluster w region (Execute region id)) order
  execute_again known = subst (λ x. Inv cluster workload x order) world_is (with_order order (ordered_again known))

  pub execute_first : ¬ (Has order id) → Inv cluster workload (moved_on cluster w region (Execute region id)) (order ++ id ∷ [])
  execute_first new = subst (λ x. Inv cluster workload x (order ++ id ∷ [])) world_is (with_order (order ++ id ∷ []) (ordered_first new))

-- an executable id was submitted
pub executable_known : {cluster : Cluster} {workload : Workload} {w : World} {order : List TxnId} → Inv cluster workload w order
    → (region : ℕ) (id : TxnId) → region < cluster.regions → MayStep (received_logs w region) (node_at w region).here (Execute region id) → WasSubmitted w id
executable_known i region id lr may = closed_known i id (closed_full i region id lr may.closed)
