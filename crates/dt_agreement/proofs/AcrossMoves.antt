-- Attempts that clash are ordered across moves.
use Rattle.std.proofs.Common.{◌≡◌, ◌≢◌, ◌<◌, true, List, Some, sym, subst, subst₂, ◌∙◌}
use Rattle.dt_lists.specs.Lists.{AnyIn, Has}
use Rattle.dt_lists.proofs.Callers.{any_get, any_of_image}
use Rattle.dt_lists.proofs.Callers.{Spot, spot}
use Rattle.dt_access.specs.Clash.{clash}
use Rattle.dt_access.specs.Granules.{unit_of}
use Rattle.dt_access.specs.declared.TxnId.{TxnId}
use Rattle.dt_access.specs.declared.Access.{Access}
use Rattle.dt_sched.specs.Views.{Precedes}
use Rattle.dt_events.specs.declared.Event.{Event}
use Rattle.dt_table.specs.Table.{Table}
use Rattle.dt_txn.specs.declared.Txn.{Txn}
use Rattle.dt_txn.specs.declared.Outcome.{Outcome}
use Rattle.dt_txn.specs.Staleness.{IsStaleOutcome}
use Rattle.dt_txn.specs.Execution.{one}
use Rattle.dt_txn.specs.Serial.{table_after}
use Rattle.dt_serial.specs.Order.{IsLive, Ordered, uses_in}
use Rattle.dt_serial.proofs.Callers.{across_fewer, across_moves, live_of_outcome, looked_has, has_outcome_at, single_outcome}
use Rattle.dt_cluster.specs.declared.Cluster.{Cluster}
use Rattle.dt_workload.specs.declared.Workload.{Workload}
use Rattle.dt_session.specs.World.{World, opening_table, logs_of, txn_of, outcome_in}
use Rattle.dt_session.specs.Step.{IsStale}
use Rattle.dt_session.specs.Run.{world_after, order_of, txns_of, serial_outcomes, serial_outcome}
use Rattle.dt_agreement.specs.LegalRun.{IsLegalRun}
use Rattle.dt_agreement.specs.Invariant.{Rooted, Inv}
use Rattle.dt_agreement.proofs.Submissions.{txn_id}
use Rattle.dt_agreement.proofs.LegalWorlds.{legal_keeps}
use Rattle.dt_agreement.proofs.MoveHistory.{order_is_history}
use Rattle.dt_agreement.proofs.RootedWorlds.{legal_roots}
use Rattle.dt_agreement.proofs.AllAgree.{has_lookup, outcomes_in_order, outcome_ids, outcomes_once}

-- what an executed attempt that is not stale is
record RanFresh (cluster : Cluster) (w : World) (order : List TxnId) (a : TxnId) (x : Txn) : Type 0 where
  there : Has (txns_of w order) x
  own : x.id ≡ a
  outcome : Outcome
  gave : Has (outcomes_in_order cluster w order) (x.id, outcome)
  fresh : ¬ (IsStaleOutcome outcome)

module _ {cluster : Cluster} {workload : Workload} {w : World} {order : List TxnId} (i : Inv cluster workload w order) (rooted : Rooted cluster w order) where
  -- an executed attempt has an outcome in the serial run
  outcome_of_executed : (a : TxnId) → Has order a → (o : Outcome) × Has (outcomes_in_order cluster w order) (a, o) × (outcome_in (outcomes_in_order cluster w order) a ≡ Some o)
  outcome_of_executed a h =
      let has_id : AnyIn (λ e. e.0 ≡ a) (outcomes_in_order cluster w order) =
      any_of_image (λ y. y ≡ a) (λ e. e.0) (outcomes_in_order cluster w order) (subst (λ l. Has l a) (sym (outcome_ids i rooted)) h) in
      let r : (e : TxnId × Outcome) × Has (outcomes_in_order cluster w order) e × (e.0 ≡ a) = any_get (λ e. e.0 ≡ a) (outcomes_in_order cluster w order) has_id in
      let there : Has (outcomes_in_order cluster w order) (a, r.0.1) = subst (λ x. Has (outcomes_in_order cluster w order) (x, r.0.1)) r.2 r.1 in
      (r.0.1, there, has_lookup (outcomes_in_order cluster w order) a r.0.1 (outcomes_once i rooted) there)

  in_run : (a : TxnId) (x : Txn) → Has order a → txn_of w a ≡ Some x → Has (txns_of w order) x
  in_run a x h e = looked_has (txn_of w) (txn_id w) order a x h e

  run_of : (a : TxnId) (x : Txn) → Has order a → txn_of w a ≡ Some x → ¬ (IsStale (outcome_in (outcomes_in_order cluster w order) a)) → RanFresh cluster w order a x
  run_of a x h e n =
      let own : x.id ≡ a = txn_id w a x e in
      let r : (o : Outcome) × Has (outcomes_in_order cluster w order) (a, o) × (outcome_in (outcomes_in_order cluster w order) a ≡ Some o) = outcome_of_executed a h in
      record {
        there = in_run a x h e;
        own = own;
        outcome = r.0;
        gave = subst (λ y. Has (outcomes_in_order cluster w order) (y, r.0)) (sym own) r.1;
        fresh = subst (λ o. ¬ (IsStale o)) r.2 n;
      }

  -- two executed attempts that are not stale and clash are ordered
  ordered_across : (a b : TxnId) (x y : Txn) → a ≢ b → RanFresh cluster w order a x → RanFresh cluster w order b y → clash (uses_in x) (uses_in y) ≡ true → Ordered (Precedes (logs_of w)) a b
  ordered_across a b x y ne p q c =
      let apart : x.id ≢ y.id = λ e. ne (sym p.own ∙ e ∙ q.own) in
      subst₂ (Ordered (Precedes (logs_of w))) p.own q.own
      (across_moves cluster.procs (Precedes (logs_of w)) (opening_table cluster) (txns_of w order) (order_is_history i rooted) x y p.outcome q.outcome p.there q.there apart p.gave q.gave p.fresh q.fresh c)

  -- of two executed attempts that use one unit, that with fewer moves of it, if it is not stale, precedes the other
  fewer_precedes : (a b : TxnId) (x y : Txn) → RanFresh cluster w order a x → Has order b → txn_of w b ≡ Some y
      → (k l : Access) → Has x.access k → Has y.access l → unit_of cluster.version k.key ≡ unit_of cluster.version l.key → k.counter < l.counter → Precedes (logs_of w) a b
  fewer_precedes a b x y p hb eb k l hk hl unit fewer =
      subst₂ (Precedes (logs_of w)) p.own (txn_id w b y eb)
      (across_fewer cluster.procs (Precedes (logs_of w)) (opening_table cluster) (txns_of w order) (order_is_history i rooted) x y s k l live (in_run b y hb eb) hk hl unit fewer)
    where
      s : Spot (txns_of w order) x
      s = spot (txns_of w order) x p.there

      seen : Table
      seen = table_after cluster.procs s.front (opening_table cluster)

      same : p.outcome ≡ (one cluster.procs x seen).0
      same = single_outcome cluster.procs (Precedes (logs_of w)) (opening_table cluster) (txns_of w order) (order_is_history i rooted) x.id p.outcome (one cluster.procs x seen).0 p.gave
          (has_outcome_at cluster.procs (txns_of w order) (opening_table cluster) x s)

      live : IsLive x seen
      live = live_of_outcome cluster.procs x seen (subst (λ o. ¬ (IsStaleOutcome o)) same p.fresh)

-- the same of legal lists of events

module _ {cluster : Cluster} {workload : Workload} {events : List Event} (run : IsLegalRun cluster workload events) where
  -- the world at the end
  abbrev final : World
  final = world_after cluster workload events

  i : Inv cluster workload final (order_of events)
  i = legal_keeps run

  rooted : Rooted cluster final (order_of events)
  rooted = legal_roots run

  pub executed_outcome : (a : TxnId) → Has (order_of events) a → (o : Outcome) × Has (serial_outcomes cluster workload events) (a, o) × (serial_outcome cluster workload events a ≡ Some o)
  executed_outcome a h = outcome_of_executed i rooted a h

  pub legal_across : (a b : TxnId) (x y : Txn) → a ≢ b → Has (order_of events) a → Has (order_of events) b
      → txn_of final a ≡ Some x → txn_of final b ≡ Some y
      → ¬ (IsStale (serial_outcome cluster workload events a)) → ¬ (IsStale (serial_outcome cluster workload events b))
      → clash (uses_in x) (uses_in y) ≡ true → Ordered (Precedes (logs_of final)) a b
  legal_across a b x y ne ha hb ea eb na nb c = ordered_across i rooted a b x y ne (run_of i rooted a x ha ea na) (run_of i rooted b y hb eb nb) c

  pub legal_fewer : (a b : TxnId) (x y : Txn) → Has (order_of events) a → Has (order_of events) b
      → txn_of final a ≡ Some x → txn_of final b ≡ Some y
      → ¬ (IsStale (serial_outcome cluster workload events a))
      → (k l : Access) → Has x.access k → Has y.access l → unit_of cluster.version k.key ≡ unit_of cluster.version l.key → k.counter < l.counter → Precedes (logs_of final) a b
  legal_fewer a b x y ha hb ea eb na k l hk hl unit fewer = fewer_precedes i rooted a b x y (run_of i rooted a x ha ea na) hb eb k l hk hl unit fewer
