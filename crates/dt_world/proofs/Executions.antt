-- What regions have executed: it is there to report, with the outcome of the serial order.
use Rattle.std.proofs.Common.{◌≡◌, ◌<◌, ◌+◌, ◌⊎◌, ℕ, true, false, cond, List, [], ◌∷◌, ◌++◌, map, take, slice_get, Some, None, refl}
use Rattle.std.proofs.Common.{sym, ap, subst, ◌∙◌, inl, inr}
use Rattle.std.specs.Prelude.{Option, option_map, option_and_then, option_to_list, filter_map}
use Rattle.std.specs.List.{cons_option}
use Rattle.std.proofs.lemmas.Bool.{cases_Bool}
use Rattle.std.proofs.lemmas.List.{map_push, get_or-set_same}
use Rattle.std.proofs.lemmas.List.Elements.{filter_map-append}
use Rattle.dt_lists.specs.Lists.{AllIn, Has, IsFront}
use Rattle.dt_lists.proofs.Callers.{all_put, any_of_image, any_image, any_front, has_last}
use Rattle.dt_access.proofs.Callers.{test_of_id}
use Rattle.dt_access.specs.Ids.{same_id, is_among}
use Rattle.dt_access.specs.declared.TxnId.{TxnId}
use Rattle.dt_events.specs.declared.Event.{Event}
use Rattle.dt_events.specs.declared.Event.TheVariants.{Execute}
use Rattle.dt_txn.specs.declared.Outcome.{Outcome}
use Rattle.dt_txn.specs.Execution.{one}
use Rattle.dt_txn.specs.Replica.{done_ids, executed}
use Rattle.dt_report.specs.declared.Ran.{Ran}
use Rattle.dt_cluster.specs.declared.Cluster.{Cluster}
use Rattle.dt_workload.specs.declared.Workload.{Workload}
use Rattle.dt_session.specs.World.{World, Submission, no_node, node_at, outcome_at, outcome_in, submission_of, txn_of}
use Rattle.dt_session.specs.Step.{IsLegal, next}
use Rattle.dt_session.specs.Run.{executed_id, order_of, serial_outcome, world_after}
use Rattle.dt_agreement.specs.Invariant.{Inv, IsExecutedAt}
use Rattle.dt_agreement.specs.LegalRun.{IsLegalRun}
use Rattle.dt_agreement.proofs.Callers.{lookup_has, legal_agree, executable_known, legal_keeps, with_executed, order_of_more, world_after_more, WasSubmitted, txn_id}
use Rattle.dt_world.specs.SessionReplayInner.{ran_at}
use Rattle.dt_world.specs.WorldReport.{IsOutcomeOf, ran, ran_of, rans_of}
use Rattle.dt_world.proofs.GrowingNodes.{grows_to, legal_at, split_at}

-- an executed id has an outcome

pub outcome_there : (done : List (TxnId × Outcome)) (id : TxnId) → Has (map (λ d. d.0) done) id → (o : Outcome) × (outcome_in done id ≡ Some o)
outcome_there [] id h = absurd h
outcome_there (d ∷ done) id h = go (cases_Bool (same_id id d.0)) h (λ r. outcome_there done id r)
  where
    go : (same_id id d.0 ≡ true) ⊎ (same_id id d.0 ≡ false) → Has (map (λ x. x.0) (d ∷ done)) id
        → (Has (map (λ x. x.0) done) id → (o : Outcome) × (outcome_in done id ≡ Some o)) → (o : Outcome) × (outcome_in (d ∷ done) id ≡ Some o)
    go (inl y) r f = (d.1, rw y refl)
    go (inr n) (inl e) f = absurd (cc (test_of_id id d.0 (sym e)))
    go (inr n) (inr r) f = let g : (o : Outcome) × (outcome_in done id ≡ Some o) = f r in (g.0, rw n g.1)

-- an execution is there afterwards
pub executed_next : (cluster : Cluster) (workload : Workload) (w : World) (order : List TxnId) (region : ℕ) (id : TxnId) → IsLegal cluster workload w (Execute region id) → Inv cluster workload w order
    → IsExecutedAt (next cluster workload w (Execute region id)) region id
executed_next cluster workload w order region id l i =
    let k : WasSubmitted w id = executable_known i region id l.regions l.allowed in
    let node : node_at (next cluster workload w (Execute region id)) region ≡ record (node_at w region) { here = executed cluster.procs (node_at w region).here (txn_of w id) } =
    get_or-set_same w.nodes region _ no_node (subst (λ n. region < n) (sym i.nodes) l.regions) in
    let here : node_at (next cluster workload w (Execute region id)) region ≡ record (node_at w region) { here = executed cluster.procs (node_at w region).here (Some k.0) } = node
    ∙ ap (λ o. record (node_at w region) { here = executed cluster.procs (node_at w region).here o }) k.1 in
    subst (λ n. Has (done_ids n.here) id) (sym here)
    (subst (λ l. Has l id) (sym (map_push (λ d. d.0) (node_at w region).here.done (k.0.id, (one cluster.procs k.0 (node_at w region).here.table).0)))
    (subst (λ x. Has (done_ids (node_at w region).here ++ x ∷ []) id) (sym (txn_id w id k.0 k.1)) (has_last (done_ids (node_at w region).here) id)))

-- one more event, in the order of first executions
module _ (events : List Event) where
  -- the order before an event
  abbrev order_to : ℕ → List TxnId
  order_to i = order_of (take i events)

  pub order_other : (i : ℕ) (event : Event) → slice_get events i ≡ Some event → executed_id event ≡ None → order_to (i + 1) ≡ order_to i
  order_other i event e none = ap order_of (split_at events i event e).1 ∙ order_of_more (take i events) event ∙ ap (with_executed (order_to i)) none

  pub order_again : (i region : ℕ) (id : TxnId) → slice_get events i ≡ Some (Execute region id) → is_among (order_to i) id ≡ true → order_to (i + 1) ≡ order_to i
  order_again i region id e there = ap order_of (split_at events i (Execute region id) e).1 ∙ order_of_more (take i events) (Execute region id) ∙ ap (λ b. cond b (order_to i) (order_to i ++ id ∷ [])) there

  pub order_new : (i region : ℕ) (id : TxnId) → slice_get events i ≡ Some (Execute region id) → is_among (order_to i) id ≡ false → order_to (i + 1) ≡ order_to i ++ id ∷ []
  order_new i region id e new = ap order_of (split_at events i (Execute region id) e).1 ∙ order_of_more (take i events) (Execute region id) ∙ ap (λ b. cond b (order_to i) (order_to i ++ id ∷ [])) new

module _ {cluster : Cluster} {workload : Workload} {events : List Event} (run : IsLegalRun cluster workload events) where
  -- the world at the end
  abbrev final : World
  final = world_after cluster workload events

  -- the world before an event
  abbrev world_before : ℕ → World
  world_before i = world_after cluster workload (take i events)

  -- what was executed early is executed at the end
  pub still_executed : (i region : ℕ) (id : TxnId) → IsExecutedAt (world_before i) region id → IsExecutedAt final region id
  still_executed i region id h =
      let early : List (TxnId × Outcome) = (node_at (world_before i) region).here.done in
      let late : List (TxnId × Outcome) = (node_at final region).here.done in
      let g : IsFront early late = (grows_to cluster workload events i region).done in
      any_image (λ y. y ≡ id) (λ d. d.0) late (any_front (λ d. d.0 ≡ id) early late g (any_of_image (λ y. y ≡ id) (λ d. d.0) early h))

  pub executed_at : (i region : ℕ) (id : TxnId) → slice_get events i ≡ Some (Execute region id) → (region < cluster.regions) × IsExecutedAt final region id
  executed_at i region id e =
      let l : IsLegalRun cluster workload (take i events) × IsLegal cluster workload (world_before i) (Execute region id) = legal_at run i (Execute region id) e in
      let h : IsExecutedAt (next cluster workload (world_before i) (Execute region id)) region id =
      executed_next cluster workload (world_before i) (order_of (take i events)) region id l.1 (legal_keeps l.0) in (
        l.1.regions,
        still_executed (i + 1) region id (subst (λ x. IsExecutedAt (world_after cluster workload x) region id) (sym (split_at events i (Execute region id) e).1)
            (subst (λ w. IsExecutedAt w region id) (sym (world_after_more cluster workload (take i events) (Execute region id))) h)),
      )

  -- the outcome that a region keeps is the serial one
  abbrev HasSerial : ℕ → TxnId → Type 0
  HasSerial region id = (o : Outcome) × (outcome_at final region id ≡ Some o) × (serial_outcome cluster workload events id ≡ Some o)

  pub serial_is : (region : ℕ) (id : TxnId) → region < cluster.regions → IsExecutedAt final region id → HasSerial region id
  serial_is region id lr h =
      let o : (o : Outcome) × (outcome_at final region id ≡ Some o) = outcome_there (node_at final region).here.done id h in
      (o.0, o.1, (legal_agree run).outcomes region id o.0 lr (lookup_has (node_at final region).here.done id o.0 o.1))

  pub ran_is : (region : ℕ) (id : TxnId) → region < cluster.regions → IsExecutedAt final region id → ran_at final region id ≡ ran_of cluster workload events id
  ran_is region id lr h =
      let s : HasSerial region id = serial_is region id lr h in
      ap (λ o. option_and_then (λ x. option_map (ran id x) o) (submission_of final id)) (s.1 ∙ sym s.2)

  -- one more event, in the order of what is reported

  order_pushed : (ids : List TxnId) (id : TxnId) (r : Ran) → ran_of cluster workload events id ≡ Some r → filter_map (ran_of cluster workload events) (ids ++ id ∷ []) ≡ filter_map (ran_of cluster workload events) ids ++ r ∷ []
  order_pushed ids id r e = filter_map-append (ran_of cluster workload events) ids (id ∷ []) ∙ ap (λ l. filter_map (ran_of cluster workload events) ids ++ l) (one_more (ran_of cluster workload events id) e)
    where
      one_more : (o : Option Ran) → o ≡ Some r → filter_map (λ (x : TxnId). o) (id ∷ []) ≡ r ∷ []
      one_more o is = rw is refl

  pub rans_more : (i region : ℕ) (id : TxnId) (r : Ran) → slice_get events i ≡ Some (Execute region id) → is_among (order_of (take i events)) id ≡ false → ran_at final region id ≡ Some r
      → filter_map (ran_of cluster workload events) (order_of (take (i + 1) events)) ≡ filter_map (ran_of cluster workload events) (order_of (take i events)) ++ r ∷ []
  rans_more i region id r e new is =
      let x : (region < cluster.regions) × IsExecutedAt final region id = executed_at i region id e in
      ap (filter_map (ran_of cluster workload events)) (order_new events i region id e new) ∙ order_pushed (order_of (take i events)) id r (sym (ran_is region id x.0 x.1) ∙ is)

  -- some region has executed the attempt
  abbrev IsExecuted : TxnId → Type 0
  IsExecuted id = (region : ℕ) × (region < cluster.regions) × IsExecutedAt final region id

  -- what is reported of an attempt is the outcome that its regions keep
  abbrev IsKept : Ran → Type 0
  IsKept r = IsOutcomeOf cluster.regions final r.id r.outcome

  -- every reported outcome is the one that all regions keep that executed the attempt
  pub outcomes_kept : AllIn IsKept (rans_of cluster workload events)
  outcomes_kept = each (order_of events) (all_put _ (order_of events) (λ id h. ((legal_keeps run).ordered.executed id).0 h))
    where
      is_outcome : (id : TxnId) (o : Outcome) → IsExecuted id → serial_outcome cluster workload events id ≡ Some o
          → IsOutcomeOf cluster.regions final id o
      is_outcome id o x e =
          let s : HasSerial x.0 id = serial_is x.0 id x.1 x.2 in
          let both : Some s.0 ≡ Some o = sym s.2 ∙ e in
          let same : s.0 ≡ o = cc in
          record {
            executed = (x.0, x.1, subst (λ p. Has (node_at final x.0).here.done (id, p)) same (lookup_has (node_at final x.0).here.done id s.0 s.1));
            kept = λ region other lr h. let twice : Some other ≡ Some o = sym ((legal_agree run).outcomes region id other lr h) ∙ e in cc;
          }

      here : (id : TxnId) → IsExecuted id
          → (s : Option Submission) (o : Option Outcome) → serial_outcome cluster workload events id ≡ o
          → AllIn IsKept (option_to_list (option_and_then (λ x. option_map (ran id x) o) s))
      here id x None o e = tt
      here id x (Some s) None e = tt
      here id x (Some s) (Some o) e = (is_outcome id o x e, tt)

      each : (ids : List TxnId) → AllIn IsExecuted ids → AllIn IsKept (filter_map (ran_of cluster workload events) ids)
      each [] a = tt
      each (id ∷ ids) a = joined (ran_of cluster workload events id) (here id a.0 (submission_of final id) (serial_outcome cluster workload events id) refl) (each ids a.1)
        where
          joined : (o : Option Ran) → AllIn IsKept (option_to_list o) → AllIn IsKept (filter_map (ran_of cluster workload events) ids)
              → AllIn IsKept (cons_option o (filter_map (ran_of cluster workload events) ids))
          joined None a b = b
          joined (Some r) a b = (a.0, b)
