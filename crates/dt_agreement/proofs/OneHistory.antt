-- The executions of legal events are one history, and those of each region a part of it; and what the theory of serial runs
-- says of moves, said of legal events.
use Rattle.std.proofs.Common.{◌≡◌, ◌<◌, ◌≤◌, ℕ, Bool, true, false, List, [], ◌∷◌, ◌++◌, Some, slice_get, refl, sym, ap, subst, ◌∙◌, inl, inr, append_assoc}
use Rattle.std.proofs.lemmas.List.Elements.{filter_map-append}
use Rattle.dt_lists.specs.Lists.{AllIn, EachThen, Either, Has, IsFront}
use Rattle.dt_lists.proofs.Callers.{all_get, all_put, any_get}
use Rattle.dt_access.specs.Clash.{Bytes}
use Rattle.dt_access.specs.Granules.{unit_of}
use Rattle.dt_access.specs.declared.TxnId.{TxnId}
use Rattle.dt_sched.specs.Views.{Precedes}
use Rattle.dt_sched.proofs.Callers.{precedes_decided}
use Rattle.dt_events.specs.declared.Event.{Event}
use Rattle.dt_events.specs.declared.Event.TheVariants.{Execute}
use Rattle.dt_table.specs.Table.{Moved, counter_of, moves_of}
use Rattle.dt_txn.specs.Execution.{one}
use Rattle.dt_txn.specs.Replica.{done_ids}
use Rattle.dt_txn.specs.Serial.{table_after}
use Rattle.dt_txn.specs.Staleness.{IsStaleOutcome}
use Rattle.dt_txn.specs.declared.Txn.{Txn}
use Rattle.dt_txn.specs.declared.txn.Body.TheVariants.{Move}
use Rattle.dt_serial.specs.Order.{ByTest, IsDown, IsHistory, txn_ids}
use Rattle.dt_serial.proofs.Callers.{chain, counters_exact, counters_reached, down_as, flag_down, flag_up, history_as, live_of_outcome, looked_from, move_numbered}
use Rattle.dt_serial.proofs.Callers.{movers_ran, moves_front}
use Rattle.dt_cluster.specs.declared.Cluster.{Cluster}
use Rattle.dt_workload.specs.declared.Workload.{Workload}
use Rattle.dt_session.specs.World.{World, logs_of, node_at, opening_table, txn_of}
use Rattle.dt_session.specs.Step.{IsLegal}
use Rattle.dt_session.specs.Run.{order_of, txns_of, world_after}
use Rattle.dt_agreement.specs.Invariant.{Inv, IsExecutedAt, Rooted, history_of}
use Rattle.dt_agreement.specs.LegalRun.{IsLegalRun}
use Rattle.dt_agreement.specs.OneHistory.{AreOneHistory, SeesMover, executions_at}
use Rattle.dt_agreement.proofs.Annotations.{unmoved_at_first}
use Rattle.dt_agreement.proofs.LaterWorlds.{later_done, later_found}
use Rattle.dt_agreement.proofs.LegalWorlds.{legal_keeps}
use Rattle.dt_agreement.proofs.MoveHistory.{done_txn_ids, order_is_history, region_down, region_members}
use Rattle.dt_agreement.proofs.RegionViews.{done_known}
use Rattle.dt_agreement.proofs.RootedWorlds.{legal_roots}
use Rattle.dt_agreement.proofs.Rule6Execute.{executed_txns}
use Rattle.dt_agreement.proofs.Runs.{run_front, run_longer, run_more, world_after_more}
use Rattle.dt_agreement.proofs.Submissions.{txn_id, txn_stays, txns_stay}

-- a test of what is decided

abbrev says : {P : Type 0} → Either P → Bool
says (inl p) = true
says (inr n) = false

said : {P : Type 0} (d : Either P) → says d ≡ true → P
said (inl p) e = p
said (inr n) e = cc

says_so : {P : Type 0} (d : Either P) → P → says d ≡ true
says_so (inl p) q = refl
says_so (inr n) q = absurd (n q)

module _ {cluster : Cluster} {workload : Workload} {w : World} {order : List TxnId} (i : Inv cluster workload w order) (rooted : Rooted cluster w order) where
  abbrev test : TxnId → TxnId → Bool
  test u t = says (precedes_decided (logs_of w) u t)

  to : (u t : TxnId) → Precedes (logs_of w) u t → ByTest test u t
  to u t r = says_so (precedes_decided (logs_of w) u t) r

  from : (u t : TxnId) → ByTest test u t → Precedes (logs_of w) u t
  from u t e = said (precedes_decided (logs_of w) u t) e

  by_test : IsHistory cluster.procs (ByTest test) (opening_table cluster) (txns_of w order)
  by_test = history_as (Precedes (logs_of w)) (ByTest test) to from cluster.procs (opening_table cluster) (txns_of w order) (order_is_history i rooted)

  pub are_one_history : AreOneHistory cluster w order
  are_one_history = record {
    precedes = test;
    told = λ u t. (from u t, to u t);
    fits = by_test;
    parts = λ region lr. record {
      fits = by_test;
      members = region_members i rooted region lr;
      down = down_as (Precedes (logs_of w)) (ByTest test) to from (txn_ids (executions_at w region)) (region_down i rooted region lr);
    };
    kept = λ region lr. i.tables region lr;
  }

  -- the moves of a unit

  pub moves_in_order : (key : Bytes) → EachThen (λ m n. Precedes (logs_of w) m.by n.by) (history_of cluster w order key)
  moves_in_order key = chain cluster.procs (Precedes (logs_of w)) (opening_table cluster) (txns_of w order) (order_is_history i rooted) key

  pub moves_numbered : (key : Bytes) (c : ℕ) (m : Moved) → slice_get (history_of cluster w order key) c ≡ Some m
      → (x : Txn) × Has order m.by × (txn_of w m.by ≡ Some x) × (x.body ≡ Move (unit_of cluster.version key) m.target)
      × AllIn (λ a. unit_of cluster.version a.key ≡ unit_of cluster.version key → a.counter ≡ c) x.access
  moves_numbered key c m e =
      let r = any_get _ (txns_of w order) (move_numbered cluster.procs (Precedes (logs_of w)) (opening_table cluster) (txns_of w order) (order_is_history i rooted) key c m e) in
      let there : Has order (r.0).id × (txn_of w (r.0).id ≡ Some r.0) =
      all_get (λ x. Has order x.id × (txn_of w x.id ≡ Some x)) (txns_of w order) (looked_from (txn_of w) (txn_id w) order) r.0 r.1 in
      (r.0, subst (Has order) r.2.0 there.0, subst (λ id. txn_of w id ≡ Some r.0) r.2.0 there.1, r.2.1, r.2.2)

  module _ (region : ℕ) (lr : region < cluster.regions) where
    -- a region's moves are the first ones
    pub moves_first : (key : Bytes) → IsFront (moves_of (node_at w region).here.table key) (history_of cluster w order key)
    moves_first key = subst (λ t. IsFront (moves_of t key) (history_of cluster w order key)) (sym (i.tables region lr).table)
        (moves_front cluster.procs (Precedes (logs_of w)) (opening_table cluster) (txns_of w order) (order_is_history i rooted) (executions_at w region) key
        (region_members i rooted region lr) (region_down i rooted region lr))

    -- made by what it executed
    pub moves_own : (key : Bytes) → AllIn (λ m. IsExecutedAt w region m.by) (moves_of (node_at w region).here.table key)
    moves_own key = subst (λ t. AllIn (λ m. IsExecutedAt w region m.by) (moves_of t key)) (sym (i.tables region lr).table)
        (subst (λ l. AllIn (λ m. Has l m.by) (moves_of (table_after cluster.procs (executions_at w region) (opening_table cluster)) key)) (done_txn_ids i region lr)
        (movers_ran cluster.procs (executions_at w region) (opening_table cluster) key (unmoved_at_first cluster key)))

-- an execution within legal events: what the region ran before it, and what it ran in the end

module _ {cluster : Cluster} {workload : Workload} {first : List Event} {region : ℕ} {id : TxnId} (run : IsLegalRun cluster workload first)
    (legal : IsLegal cluster workload (world_after cluster workload first) (Execute region id)) (x : Txn) (found : txn_of (world_after cluster workload first) id ≡ Some x) where
  abbrev pub early : World
  early = world_after cluster workload first

  abbrev pub here : List Event
  here = first ++ Execute region id ∷ []

  abbrev pub now : World
  now = world_after cluster workload here

  i : Inv cluster workload early (order_of first)
  i = legal_keeps run

  abbrev pub ran_early : List Txn
  ran_early = executions_at early region

  pub table_was : (node_at early region).here.table ≡ table_after cluster.procs ran_early (opening_table cluster)
  table_was = (i.tables region legal.regions).table

  ran_now : executions_at now region ≡ ran_early ++ x ∷ []
  ran_now = subst (λ u. executions_at u region ≡ ran_early ++ x ∷ []) (sym (world_after_more cluster workload first (Execute region id)))
      (executed_txns i region id legal.regions legal.allowed x found)

  all : IsLegalRun cluster workload here
  all = run_longer run legal

  rooted_now : Rooted cluster now (order_of here)
  rooted_now = legal_roots all

  members_now : AllIn (λ y. Has (txns_of now (order_of here)) y) (ran_early ++ x ∷ [])
  members_now = subst (AllIn (λ y. Has (txns_of now (order_of here)) y)) ran_now (region_members (legal_keeps all) rooted_now region legal.regions)

  down_now : IsDown (Precedes (logs_of now)) (txn_ids (ran_early ++ x ∷ []))
  down_now = subst (λ xs. IsDown (Precedes (logs_of now)) (txn_ids xs)) ran_now (region_down (legal_keeps all) rooted_now region legal.regions)

  -- no key's unit has been moved less often than the attempt was annotated with
  pub counters_were : AllIn (λ a. a.counter ≤ counter_of (node_at early region).here.table a.key) x.access
  counters_were = subst (λ t. AllIn (λ a. a.counter ≤ counter_of t a.key) x.access) (sym table_was)
      (counters_reached cluster.procs (Precedes (logs_of now)) (opening_table cluster) (txns_of now (order_of here)) (order_is_history (legal_keeps all) rooted_now) ran_early x [] members_now down_now)

  -- and where it is not stale, just as often
  pub counters_same : ¬ (IsStaleOutcome (one cluster.procs x (node_at early region).here.table).0) → AllIn (λ a. counter_of (node_at early region).here.table a.key ≡ a.counter) x.access
  counters_same fresh = subst (λ t. AllIn (λ a. counter_of t a.key ≡ a.counter) x.access) (sym table_was)
      (counters_exact cluster.procs (Precedes (logs_of now)) (opening_table cluster) (txns_of now (order_of here)) (order_is_history (legal_keeps all) rooted_now) ran_early x [] members_now down_now
      (live_of_outcome cluster.procs x (table_after cluster.procs ran_early (opening_table cluster))
      (subst (λ t. ¬ (IsStaleOutcome (one cluster.procs x t).0)) table_was fresh)))

  module _ (last : List Event) (whole : IsLegalRun cluster workload (first ++ Execute region id ∷ [] ++ last)) where
    abbrev pub w : World
    w = world_after cluster workload (here ++ last)

    pub more : IsFront (done_ids (node_at now region).here) (done_ids (node_at w region).here)
    more = later_done here last whole region

    abbrev pub then_ran : List Txn
    then_ran = txns_of w more.0

    still : txns_of w (done_ids (node_at now region).here) ≡ ran_early ++ x ∷ []
    still = txns_stay now w (txn_stays now w (later_found here last whole)) (done_ids (node_at now region).here) (done_known (legal_keeps all) region legal.regions) ∙ ran_now

    pub ran_all : executions_at w region ≡ ran_early ++ x ∷ then_ran
    ran_all = ap (txns_of w) (sym more.1) ∙ filter_map-append (txn_of w) (done_ids (node_at now region).here) more.0
        ∙ ap (λ l. l ++ then_ran) still ∙ append_assoc ran_early (x ∷ []) then_ran

    k : Inv cluster workload w (order_of (here ++ last))
    k = legal_keeps whole

    rooted : Rooted cluster w (order_of (here ++ last))
    rooted = legal_roots whole

    past_then : IsHistory cluster.procs (Precedes (logs_of w)) (opening_table cluster) (txns_of w (order_of (here ++ last)))
    past_then = order_is_history k rooted

    members : AllIn (λ y. Has (txns_of w (order_of (here ++ last))) y) (ran_early ++ x ∷ then_ran)
    members = subst (AllIn (λ y. Has (txns_of w (order_of (here ++ last))) y)) ran_all (region_members k rooted region legal.regions)

    down : IsDown (Precedes (logs_of w)) (txn_ids (ran_early ++ x ∷ then_ran))
    down = subst (λ xs. IsDown (Precedes (logs_of w)) (txn_ids xs)) ran_all (region_down k rooted region legal.regions)

    -- the next mover that the attempt sees
    pub sees_mover : AllIn (SeesMover cluster w (order_of (here ++ last)) (node_at early region).here.table id) x.access
    sees_mover = subst (λ t. AllIn (SeesMover cluster w (order_of (here ++ last)) t id) x.access) (sym table_was)
        (subst (λ u. AllIn (SeesMover cluster w (order_of (here ++ last)) (table_after cluster.procs ran_early (opening_table cluster)) u) x.access) (txn_id early id x found)
        (all_put _ x.access (λ a ka by. (
          flag_down cluster.procs (Precedes (logs_of w)) (opening_table cluster) (txns_of w (order_of (here ++ last))) past_then ran_early x then_ran a by members down ka,
          λ r. flag_up cluster.procs (Precedes (logs_of w)) (opening_table cluster) (txns_of w (order_of (here ++ last))) past_then ran_early x then_ran a by members down ka r.0 r.1,
        ))))

-- of a legal list, in which an execution stands
module _ (first : List Event) (region : ℕ) (id : TxnId) (last : List Event) where
  -- the whole list
  abbrev executing : List Event
  executing = first ++ Execute region id ∷ last

  pub legal_sees : {cluster : Cluster} {workload : Workload} → IsLegalRun cluster workload executing → (x : Txn) → txn_of (world_after cluster workload first) id ≡ Some x
      → AllIn (SeesMover cluster (world_after cluster workload executing) (order_of executing) (node_at (world_after cluster workload first) region).here.table id) x.access
  legal_sees {cluster = cluster} {workload = workload} run x found =
      let whole : IsLegalRun cluster workload (first ++ Execute region id ∷ [] ++ last) = subst (IsLegalRun cluster workload) (sym (append_assoc first (Execute region id ∷ []) last)) run in
      let before : IsLegalRun cluster workload first × IsLegal cluster workload (world_after cluster workload first) (Execute region id) = run_more (run_front (first ++ Execute region id ∷ []) last whole).0 in
      subst (λ l. AllIn (SeesMover cluster (world_after cluster workload l) (order_of l) (node_at (world_after cluster workload first) region).here.table id) x.access)
      (append_assoc first (Execute region id ∷ []) last) (sees_mover before.0 before.1 x found last whole)
