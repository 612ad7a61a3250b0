-- In every legal world all regions agree.
use Rattle.dt_lists.proofs.Callers.{some_across}
use Rattle.dt_access.proofs.Callers.{id_of_test, test_of_id}
use Rattle.std.proofs.Common.{◌≡◌, ◌<◌, ◌⊎◌, ◌↔◌, ℕ, zero, suc, true, false, List, [], ◌∷◌, ◌++◌, length, map, take, Some, None, refl, sym, ap, ap₂, subst}
use Rattle.std.proofs.Common.{subst₂, ◌∙◌, inl, inr, append_assoc, append-nil}
use Rattle.std.specs.Prelude.{Option, option_map, filter, slice_index}
use Rattle.std.specs.List.{cons_option}
use Rattle.std.proofs.lemmas.Bool.{cases_Bool}
use Rattle.std.proofs.lemmas.List.{map-append}
use Rattle.dt_lists.specs.Lists.{AnyIn, AllIn, Has, IsFront, Distinct}
use Rattle.dt_lists.proofs.Callers.{any_get, any_append, any_append_left, all_get, all_put, has_map, all_append_left, each_across}
use Rattle.dt_lists.proofs.Callers.{has_before, has_middle, lookup_has as found_in_list}
use Rattle.dt_lists.proofs.Callers.{front_refl, front_trans, any_front}
use Rattle.dt_access.specs.Ids.{same_id, is_among, StandsBefore}
use Rattle.dt_access.specs.Clash.{Bytes}
use Rattle.dt_access.specs.Granules.{unit_of}
use Rattle.dt_access.proofs.Callers.{unit_again}
use Rattle.dt_access.specs.declared.TxnId.{TxnId}
use Rattle.dt_access.specs.declared.Access.{Access}
use Rattle.dt_sched.specs.Views.{View, IsClosed, Precedes}
use Rattle.dt_sched.proofs.Callers.{done_where_closed}
use Rattle.dt_events.specs.declared.Event.{Event}
use Rattle.dt_events.specs.declared.Event.TheVariants.{Submit, Answer}
use Rattle.dt_table.specs.Table.{next_mover}
use Rattle.dt_txn.specs.declared.Txn.{Txn}
use Rattle.dt_txn.specs.declared.txn.Body.TheVariants.{Move}
use Rattle.dt_txn.specs.declared.Outcome.{Outcome}
use Rattle.dt_txn.specs.declared.outcome.Outcome.TheVariants.{Gave, Aborted, Stale}
use Rattle.dt_txn.specs.Transaction.{IsValid}
use Rattle.dt_txn.specs.Execution.{see, reads_of, result_of}
use Rattle.dt_txn.specs.Serial.{outcomes, table_after}
use Rattle.dt_txn.specs.Replica.{IsDrained, fronts, done_ids}
use Rattle.dt_serial.specs.Order.{txn_ids}
use Rattle.dt_serial.specs.Evidence.{MadeMove, IsGrounded, HasReason}
use Rattle.dt_serial.proofs.Callers.{looked_filter, looked_from, one_outcome, one_restricted, one_set, outcomes_ids, reasons}
use Rattle.dt_cluster.specs.declared.Cluster.{Cluster}
use Rattle.dt_workload.specs.declared.Session.{Session}
use Rattle.dt_workload.specs.declared.Workload.{Workload}
use Rattle.dt_session.specs.World.{World, Place, opening_table, node_at, logs_of, log_of, received_of, received_logs, view_at, txn_of, attempt_of, outcome_in, outcome_at, session_at}
use Rattle.dt_session.specs.Step.{IsLast, MayEnd, MayAnswer, awaited_at, upcoming_id}
use Rattle.dt_session.specs.Run.{world_after, AreLegalFrom, executed_id, order_of, txns_of, serial_outcomes, ids_before}
use Rattle.dt_session.specs.Agreement.{WaitsFor, IsAwaited, HasCause, ReceivedAlike, Agree}
use Rattle.dt_agreement.specs.LegalRun.{IsLegalRun}
use Rattle.dt_agreement.specs.OneHistory.{executions_at}
use Rattle.dt_agreement.specs.Invariant.{IsExecutedAt, Rooted, Inv}
use Rattle.dt_agreement.proofs.Submissions.{WasSubmitted, txn_id}
use Rattle.dt_agreement.proofs.Views.{received_log}
use Rattle.dt_agreement.proofs.RegionViews.{view_fronts, order_known}
use Rattle.dt_agreement.proofs.Annotations.{moves_its_unit, txns_valid, unmoved_at_first}
use Rattle.dt_agreement.proofs.Runs.{with_executed_front, run_front, order_of_more}
use Rattle.dt_agreement.proofs.LegalWorlds.{legal_keeps}
use Rattle.dt_agreement.proofs.MoveHistory.{order_ids, done_txn_ids, order_is_history, region_members, region_down}
use Rattle.dt_agreement.proofs.RootedAnnotations.{next_unknown}
use Rattle.dt_agreement.proofs.RootedWorlds.{legal_roots}

-- outcomes by ids

pub lookup_has : (es : List (TxnId × Outcome)) (id : TxnId) (o : Outcome) → outcome_in es id ≡ Some o → Has es (id, o)
lookup_has es id o e = found_in_list (same_id id) id (λ other y. sym (id_of_test id other y)) es o e

pub has_lookup : (es : List (TxnId × Outcome)) (id : TxnId) (o : Outcome) → Distinct (map (λ e. e.0) es) → Has es (id, o) → outcome_in es id ≡ Some o
has_lookup [] id o d h = absurd h
has_lookup (x ∷ es) id o d (inl e) = rw (test_of_id id x.0 (sym (ap (λ y. y.0) e))) (ap Some (ap (λ y. y.1) e))
has_lookup (x ∷ es) id o d (inr h) = go (cases_Bool (same_id id x.0)) (has_lookup es id o d.1 h)
  where
    go : (same_id id x.0 ≡ true) ⊎ (same_id id x.0 ≡ false) → outcome_in es id ≡ Some o → outcome_in (x ∷ es) id ≡ Some o
    go (inl p) r = absurd (all_get _ (map (λ e. e.0) es) d.0 id (has_map (λ e. e.0) es (id, o) h) (sym (id_of_test id x.0 p)))
    go (inr n) r = rw n r

-- what stands before an id
before_at : (id : TxnId) (front rest : List TxnId) → ¬ (Has front id) → ids_before id (front ++ id ∷ rest) ≡ front
before_at id [] rest n = rw (test_of_id id id refl) refl
before_at id (x ∷ front) rest n = go (cases_Bool (same_id id x)) (before_at id front rest (λ h. n (inr h)))
  where
    go : (same_id id x ≡ true) ⊎ (same_id id x ≡ false) → ids_before id (front ++ id ∷ rest) ≡ front → ids_before id (x ∷ front ++ id ∷ rest) ≡ x ∷ front
    go (inl p) r = absurd (n (inl (sym (id_of_test id x p))))
    go (inr q) r = rw q (ap (λ l. x ∷ l) r)

-- the order of events is a front of that of more events
pub order_front : (xs ys : List Event) → IsFront (order_of xs) (order_of (xs ++ ys))
order_front xs [] = subst (λ l. IsFront (order_of xs) (order_of l)) (sym (append-nil xs)) (front_refl (order_of xs))
order_front xs (y ∷ ys) = subst (λ l. IsFront (order_of xs) (order_of l)) (append_assoc xs (y ∷ []) ys)
    (front_trans (order_of xs) (order_of (xs ++ y ∷ [])) (order_of (xs ++ y ∷ [] ++ ys)) (subst (IsFront (order_of xs)) (sym (order_of_more xs y)) (with_executed_front (order_of xs) (executed_id y))) (order_front (xs ++ y ∷ []) ys))

-- transactions are looked up by their ids
txns_of_ids : (w : World) (xs : List Txn) → AllIn (λ x. txn_of w x.id ≡ Some x) xs → txns_of w (txn_ids xs) ≡ xs
txns_of_ids w [] a = refl
txns_of_ids w (x ∷ xs) a = ap₂ cons_option a.0 (txns_of_ids w xs a.1)

-- fronts of one length
fronts_alike : (a b : List ℕ) (view : View) → ((home : ℕ) → slice_index a home ≡ slice_index b home) → fronts a view ≡ fronts b view
fronts_alike a b [] e = refl
fronts_alike [] [] (log ∷ logs) e = refl
fronts_alike [] (m ∷ b) (log ∷ logs) e = ap₂ ◌∷◌ (ap (λ n. take n log) (e zero)) (fronts_alike [] b logs (λ home. e (suc home)))
fronts_alike (n ∷ a) [] (log ∷ logs) e = ap₂ ◌∷◌ (ap (λ k. take k log) (e zero)) (fronts_alike a [] logs (λ home. e (suc home)))
fronts_alike (n ∷ a) (m ∷ b) (log ∷ logs) e = ap₂ ◌∷◌ (ap (λ k. take k log) (e zero)) (fronts_alike a b logs (λ home. e (suc home)))

-- the outcomes of a serial run of these ids
abbrev pub outcomes_in_order : Cluster → World → List TxnId → List (TxnId × Outcome)
outcomes_in_order cluster w order = outcomes cluster.procs (txns_of w order) (opening_table cluster)

-- a region is drained of what it received
abbrev pub IsDrainedAt : World → ℕ → Type 0
IsDrainedAt w region = IsDrained (received_logs w region) (node_at w region).here

-- a world that keeps the invariant, and in which every annotation is rooted
module _ {cluster : Cluster} {workload : Workload} {w : World} {order : List TxnId} (i : Inv cluster workload w order) (rooted : Rooted cluster w order) where
  pub outcome_ids : map (λ e. e.0) (outcomes_in_order cluster w order) ≡ order
  outcome_ids = outcomes_ids cluster.procs (txns_of w order) (opening_table cluster) ∙ order_ids i

  pub outcomes_once : Distinct (map (λ e. e.0) (outcomes_in_order cluster w order))
  outcomes_once = subst Distinct (sym outcome_ids) i.ordered.down.once

  -- an outcome that a region keeps is one of the serial run
  kept_outcome : (region : ℕ) (id : TxnId) (outcome : Outcome) → region < cluster.regions → Has (node_at w region).here.done (id, outcome) → Has (outcomes_in_order cluster w order) (id, outcome)
  kept_outcome region id outcome lr h =
      all_get (Has (outcomes_in_order cluster w order)) (outcomes cluster.procs (executions_at w region) (opening_table cluster))
      (one_outcome cluster.procs (Precedes (logs_of w)) (opening_table cluster) (txns_of w order) (order_is_history i rooted) (executions_at w region)
      (region_members i rooted region lr)
      (region_down i rooted region lr))
      (id, outcome) (subst (λ l. Has l (id, outcome)) (i.tables region lr).outcomes h)

  pub outcomes_agree : (region : ℕ) (id : TxnId) (outcome : Outcome) → region < cluster.regions → Has (node_at w region).here.done (id, outcome)
      → outcome_in (outcomes_in_order cluster w order) id ≡ Some outcome
  outcomes_agree region id outcome lr h = has_lookup (outcomes_in_order cluster w order) id outcome outcomes_once (kept_outcome region id outcome lr h)

  pub tables_agree : (region : ℕ) → region < cluster.regions
      → (node_at w region).here.table ≡ table_after cluster.procs (txns_of w (filter (is_among (done_ids (node_at w region).here)) order)) (opening_table cluster)
  tables_agree region lr =
      (i.tables region lr).table
      ∙ one_restricted cluster.procs (Precedes (logs_of w)) (opening_table cluster) (txns_of w order) (order_is_history i rooted) (executions_at w region)
      (region_members i rooted region lr)
      (region_down i rooted region lr)
      ∙ ap (λ l. table_after cluster.procs (filter (λ x. is_among l x.id) (txns_of w order)) (opening_table cluster)) (done_txn_ids i region lr)
      ∙ ap (λ l. table_after cluster.procs l (opening_table cluster)) (sym (looked_filter (txn_of w) (txn_id w) (is_among (done_ids (node_at w region).here)) order))

  -- an outcome that a region keeps has a reason in the serial run
  reason_of : (region : ℕ) (id : TxnId) (outcome : Outcome) → region < cluster.regions → Has (node_at w region).here.done (id, outcome)
      → HasReason cluster.procs (txns_of w order) (opening_table cluster) (id, outcome)
  reason_of region id outcome lr h =
      all_get (HasReason cluster.procs (txns_of w order) (opening_table cluster)) (outcomes_in_order cluster w order)
      (reasons cluster.procs (opening_table cluster) (unmoved_at_first cluster) (txns_of w order)) (id, outcome) (kept_outcome region id outcome lr h)

  -- the transaction of a reason, and what ran before it
  module _ (id : TxnId) (front rest : List Txn) (txn : Txn) (split : txns_of w order ≡ front ++ txn ∷ rest) (own : txn.id ≡ id) where
    found_all : AllIn (λ x. Has order x.id × (txn_of w x.id ≡ Some x)) (front ++ txn ∷ rest)
    found_all = subst (AllIn _) split (looked_from (txn_of w) (txn_id w) order)

    found_front : (x : Txn) → Has front x → txn_of w x.id ≡ Some x
    found_front x h = (all_get _ front (all_append_left _ front (txn ∷ rest) found_all) x h).1

    found_one : txn_of w id ≡ Some txn
    found_one = subst (λ x. txn_of w x ≡ Some txn) own (all_get _ (front ++ txn ∷ rest) found_all txn (has_middle front txn rest)).1

    order_split : order ≡ txn_ids front ++ id ∷ txn_ids rest
    order_split = sym (order_ids i) ∙ ap txn_ids split ∙ map-append (λ x. x.id) front (txn ∷ rest) ∙ ap (λ x. txn_ids front ++ x ∷ txn_ids rest) own

    before_is : table_after cluster.procs (txns_of w (ids_before id order)) (opening_table cluster) ≡ table_after cluster.procs front (opening_table cluster)
    before_is =
        let once : Distinct (txn_ids front ++ id ∷ txn_ids rest) = subst Distinct order_split i.ordered.down.once in
        let new : ¬ (Has (txn_ids front) id) = λ h. each_across _ (txn_ids front) (id ∷ txn_ids rest) id id once h (inl refl) refl in
        let ids : ids_before id order ≡ txn_ids front = ap (ids_before id) order_split ∙ before_at id (txn_ids front) (txn_ids rest) new in
        ap (λ l. table_after cluster.procs (txns_of w l) (opening_table cluster)) ids
        ∙ ap (λ l. table_after cluster.procs l (opening_table cluster)) (txns_of_ids w front (all_put _ front found_front))

  -- drained regions

  pub drained_done : (region : ℕ) → region < cluster.regions → IsDrainedAt w region → (id : TxnId) → IsExecutedAt w region id ↔ IsClosed (view_at w region) id
  drained_done region lr d id =
      done_where_closed (view_at w region) (node_at w region).here.resolved (done_ids (node_at w region).here) (i.sound region lr).done_closed
      (record { none_executable = d.executed; none_resolvable = d.resolved }) id

  -- where two see the same, the one executed what the other executed
  drained_alike : (region other : ℕ) → region < cluster.regions → other < cluster.regions → IsDrainedAt w region → IsDrainedAt w other → view_at w region ≡ view_at w other
      → (id : TxnId) → Has (txn_ids (executions_at w region)) id → Has (txn_ids (executions_at w other)) id
  drained_alike region other lr lo d e same id h =
      let done : IsExecutedAt w region id = subst (λ l. Has l id) (done_txn_ids i region lr) h in
      let closed : IsClosed (view_at w other) id = subst (λ v. IsClosed v id) same ((drained_done region lr d id).0 done) in
      subst (λ l. Has l id) (sym (done_txn_ids i other lo)) ((drained_done other lo e id).1 closed)

  module _ (region other : ℕ) (lr : region < cluster.regions) (lo : other < cluster.regions) (d : IsDrainedAt w region) (e : IsDrainedAt w other) (alike : ReceivedAlike w region other) where
    all_in : (q home : ℕ) → IsDrainedAt w q → slice_index (node_at w q).here.inserted home ≡ length (take (received_of w q home) (log_of w home))
    all_in q home x = x.inserted home ∙ ap length (received_log w q home)

    same_view : view_at w region ≡ view_at w other
    same_view =
        view_fronts i region lr
        ∙ fronts_alike (node_at w region).here.inserted (node_at w other).here.inserted (logs_of w)
        (λ home. all_in region home d ∙ ap (λ n. length (take n (log_of w home))) (alike home) ∙ sym (all_in other home e))
        ∙ sym (view_fronts i other lo)

    pub drained_agree : (node_at w region).here.table ≡ (node_at w other).here.table
    drained_agree =
        (i.tables region lr).table
        ∙ one_set cluster.procs (Precedes (logs_of w)) (opening_table cluster) (txns_of w order) (order_is_history i rooted) (executions_at w region) (executions_at w other)
        (region_members i rooted region lr) (region_members i rooted other lo)
        (region_down i rooted region lr) (region_down i rooted other lo)
        (λ id. (drained_alike region other lr lo d e same_view id, drained_alike other region lo lr e d (sym same_view) id))
        ∙ sym (i.tables other lo).table

-- causes

module _ {cluster : Cluster} {workload : Workload} {events : List Event} (run : IsLegalRun cluster workload events) where
  i : Inv cluster workload (world_after cluster workload events) (order_of events)
  i = legal_keeps run

  rooted : Rooted cluster (world_after cluster workload events) (order_of events)
  rooted = legal_roots run

  -- what ran, in the serial order
  abbrev ran : List Txn
  ran = txns_of (world_after cluster workload events) (order_of events)

  -- the entry is of a key of the unit, which it found with this counter
  abbrev IsOfUnit : Bytes → ℕ → Access → Type 0
  IsOfUnit unit had a = (unit_of cluster.version a.key ≡ unit) × (a.counter ≡ had)

  -- the unit of one of its keys is a unit
  unit_of_some : (txn : Txn) (unit : Bytes) (had : ℕ) → AnyIn (IsOfUnit unit had) txn.access → unit_of cluster.version unit ≡ unit
  unit_of_some txn unit had h =
      let r = any_get (IsOfUnit unit had) txn.access h in
      subst (λ u. unit_of cluster.version u ≡ u) r.2.0 (unit_again cluster.version r.0.key)

  -- a mover that ran before moves the unit itself
  move_of_front : (front rest : List Txn) (txn : Txn) → ran ≡ front ++ txn ∷ rest → (unit : Bytes) (mover : Txn) (moved : Bytes) (target : ℕ) → Has front mover → mover.body ≡ Move moved target
      → unit_of cluster.version moved ≡ unit_of cluster.version unit → mover.body ≡ Move (unit_of cluster.version unit) target
  move_of_front front rest txn split unit mover moved target there body same =
      let has : Has ran mover = subst (λ l. Has l mover) (sym split) (any_append_left (λ x. x ≡ mover) front (txn ∷ rest) there) in
      let valid : IsValid cluster.procs cluster.version cluster.regions mover =
      all_get (IsValid cluster.procs cluster.version cluster.regions) ran (txns_valid cluster cluster.regions (world_after cluster workload events) i.valid (order_of events)) mover has in
      moves_its_unit cluster mover moved unit target valid body same

  cause_of : (id : TxnId) (front rest : List Txn) (txn : Txn) → ran ≡ front ++ txn ∷ rest → txn.id ≡ id → (outcome : Outcome)
      → IsGrounded cluster.procs front ran (opening_table cluster) txn outcome → HasCause cluster workload events id outcome
  cause_of id front rest txn split own (Gave values) g = tt
  cause_of id front rest txn split own (Aborted cause) g = (
    txn,
    found_one i rooted id front rest txn split own,
    subst₂ (λ x t. (result_of cluster.procs x txn.body (reads_of txn.access (see txn t))).0 ≡ Aborted cause) own (sym (before_is i rooted id front rest txn split own)) g.1,
  )
  cause_of id front rest txn split own (Stale unit had by) g =
      let f : MadeMove cluster.procs front (opening_table cluster) unit had by = g.1 in
      let whole : MadeMove cluster.procs ran (opening_table cluster) unit had by = g.2 in
      let there : Has (txn_ids front) by = subst (Has (txn_ids front)) f.id (has_map (λ x. x.id) front f.mover f.there) in (
        txn,
        f.mover,
        f.target,
        found_one i rooted id front rest txn split own,
        subst (λ x. txn_of (world_after cluster workload events) x ≡ Some f.mover) f.id (found_front i rooted id front rest txn split own f.mover f.there),
        g.0,
        move_of_front front rest txn split unit f.mover f.moved f.target f.there f.body f.same ∙ ap (λ u. Move u f.target) (unit_of_some txn unit had g.0),
        subst (λ l. StandsBefore l by id) (sym (order_split i rooted id front rest txn split own)) (has_before by id (txn_ids front) (txn_ids rest) there),
        has_lookup (serial_outcomes cluster workload events) by (Gave []) (outcomes_once i rooted) whole.gave,
        ap (λ t. next_mover t unit had) (before_is i rooted id front rest txn split own) ∙ ap (option_map (λ m. m.by)) f.number,
      )

  causes_agree : (region : ℕ) (id : TxnId) (outcome : Outcome) → region < cluster.regions → Has (node_at (world_after cluster workload events) region).here.done (id, outcome)
      → HasCause cluster workload events id outcome
  causes_agree region id outcome lr h =
      let r : HasReason cluster.procs (txns_of (world_after cluster workload events) (order_of events)) (opening_table cluster) (id, outcome) = reason_of i rooted region id outcome lr h in
      cause_of id r.front r.rest r.txn r.is r.id outcome r.reason

-- what was answered

-- an id that is awaited where its session may be answered was executed there
pub answered_done : (cluster : Cluster) (w : World) (region : ℕ) (o : Option (Session × Place)) (a : TxnId) → MayAnswer cluster w region o → WaitsFor o a → IsExecutedAt w region a
answered_done cluster w region None a m f = absurd m
answered_done cluster w region (Some (session, place)) a m f = go (outcome_at w region a) refl (subst (λ waits. MayEnd cluster.tries (awaited_at w region waits)) f m)
  where
    go : (o : Option Outcome) → outcome_at w region a ≡ o → IsLast cluster.tries (attempt_of w a) o → IsExecutedAt w region a
    go None e l = absurd l
    go (Some outcome) e l = has_map (λ d. d.0) (node_at w region).here.done (a, outcome) (lookup_has (node_at w region).here.done a outcome e)

-- an attempt that is submitted after a session was answered
module _ (cluster : Cluster) (workload : Workload) (first : List Event) (region : ℕ) (session : Bytes) (middle : List Event) (other : ℕ) (name : Bytes) (last : List Event) where
  -- what happened before it was submitted
  abbrev before : List Event
  before = first ++ Answer region session ∷ middle

  -- all that happened
  abbrev whole_run : List Event
  whole_run = first ++ Answer region session ∷ middle ++ Submit other name ∷ last

  -- its id
  abbrev later_id : TxnId
  later_id = upcoming_id (world_after cluster workload before) other

  -- what was answered stands earlier
  real_time_at : (a : TxnId) → IsLegalRun cluster workload whole_run → IsAwaited cluster workload first region session a → Has (order_of whole_run) later_id → StandsBefore (order_of whole_run) a later_id
  real_time_at a run awaited executed =
      subst (λ l. StandsBefore l a later_id) front.1 (some_across (λ x y. (x ≡ a) × (y ≡ later_id)) (order_of before) front.0 a later_id
      (any_front (λ y. y ≡ a) (order_of first) (order_of before) (order_front first (Answer region session ∷ middle)) answered)
      (elim (any_append (λ y. y ≡ later_id) (order_of before) front.0 (subst (λ l. Has l later_id) (sym front.1) executed)) [
        | inl h ↦ absurd (new h)
        | inr h ↦ h
      ]) (refl, refl))
    where
      early : World
      early = world_after cluster workload first

      late : World
      late = world_after cluster workload before

      front : IsFront (order_of before) (order_of whole_run)
      front = order_front before (Submit other name ∷ last)

      outer : IsLegalRun cluster workload before × AreLegalFrom cluster workload late (Submit other name ∷ last)
      outer = run_front before (Submit other name ∷ last) run

      inner : IsLegalRun cluster workload first × AreLegalFrom cluster workload early (Answer region session ∷ middle)
      inner = run_front first (Answer region session ∷ middle) outer.0

      i : Inv cluster workload early (order_of first)
      i = legal_keeps inner.0

      j : Inv cluster workload late (order_of before)
      j = legal_keeps outer.0

      answered : Has (order_of first) a
      answered = (i.ordered.executed a).1 (region, inner.1.0.regions, answered_done cluster early region (session_at workload.sessions early.places region session) a inner.1.0.allowed awaited)

      new : ¬ (Has (order_of before) later_id)
      new h = next_unknown j other (all_get (WasSubmitted late) (order_of before) (order_known j) later_id h)

-- all regions agree
pub legal_agree : {cluster : Cluster} {workload : Workload} {events : List Event} → IsLegalRun cluster workload events → Agree cluster workload events
legal_agree {cluster = cluster} {workload = workload} {events = events} run = record {
  outcomes = outcomes_agree i rooted;
  tables = tables_agree i rooted;
  real_time = λ first region session middle other name last a split awaited executed.
      let b : TxnId = later_id cluster workload first region session middle other name last in
      subst (λ l. StandsBefore (order_of l) a b) (sym split)
      (real_time_at cluster workload first region session middle other name last a (subst (IsLegalRun cluster workload) split run) awaited (subst (λ l. Has (order_of l) b) split executed));
  causes = causes_agree run;
  drained = λ region other lr lo d e alike. drained_agree i rooted region other lr lo d e alike;
}
  where
    i : Inv cluster workload (world_after cluster workload events) (order_of events)
    i = legal_keeps run

    rooted : Rooted cluster (world_after cluster workload events) (order_of events)
    rooted = legal_roots run
