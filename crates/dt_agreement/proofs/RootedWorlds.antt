-- Each legal event keeps every annotation rooted, so in every legal world all are.
use Rattle.std.proofs.Common.{◌≡◌, ◌<◌, ◌⊎◌, ℕ, zero, suc, Bool, true, false, cond, ltb, leb, ◌&&◌, List, [], ◌∷◌, ◌++◌, length, map, set, take, slice_get}
use Rattle.std.proofs.Common.{Some, None, refl, sym, ap, subst, subst₂, ◌∙◌, inl, inr, arith}
use Rattle.std.specs.Prelude.{Option}
use Rattle.std.proofs.lemmas.List.{map_push, get_or-set_same, get_or-set_other, set_past}
use Rattle.std.proofs.Math.Seq.{map-set_same}
use Rattle.dt_lists.specs.Lists.{AllIn, Has, IsFront, Either}
use Rattle.dt_lists.proofs.Callers.{any_append, any_image, some_append_left, all_map, all_get, all_put, all_image}
use Rattle.dt_lists.proofs.Callers.{either_nat, either_le}
use Rattle.dt_lists.proofs.Callers.{has_before}
use Rattle.dt_lists.proofs.Callers.{from_right, field_of_set, flat_map_of_set}
use Rattle.dt_access.specs.Ids.{is_among, StandsBefore}
use Rattle.dt_access.specs.Clash.{Bytes}
use Rattle.dt_access.specs.Granules.{unit_of}
use Rattle.dt_access.specs.declared.Mode.{Mode}
use Rattle.dt_access.specs.declared.TxnId.{TxnId}
use Rattle.dt_access.specs.declared.Access.{Access}
use Rattle.dt_access.specs.declared.Part.{Part}
use Rattle.dt_sched.specs.Views.{ids_of, log_at, HasPart, IsLonger, IsClosed, IsWellFormed}
use Rattle.dt_sched.proofs.Callers.{closed_stays, reaches_back}
use Rattle.dt_events.specs.declared.Event.{Event}
use Rattle.dt_events.specs.declared.Event.TheVariants.{Submit, Append, Deliver, Insert, Resolve, Execute, Answer}
use Rattle.dt_table.specs.Table.{Moved, moves_of, opening_home, home_after}
use Rattle.dt_txn.specs.declared.txn.Body.TheVariants.{Move}
use Rattle.dt_txn.specs.declared.Txn.{Txn}
use Rattle.dt_txn.specs.Transaction.{uses_of, annotated, part_of, IsValid}
use Rattle.dt_txn.specs.Serial.{table_after}
use Rattle.dt_txn.specs.Replica.{Replica, MayStep, stepped}
use Rattle.dt_serial.proofs.Callers.{moves_grow, table_after_append}
use Rattle.dt_cluster.specs.declared.Cluster.{Cluster}
use Rattle.dt_cluster.specs.Valid.{IsValidCluster}
use Rattle.dt_workload.specs.declared.Workload.{Workload}
use Rattle.dt_workload.specs.declared.Session.{Session}
use Rattle.dt_workload.specs.Valid.{IsValidWorkload}
use Rattle.dt_session.specs.World.{World, Node, Place, Submission, no_node, node_at, with_node, opening_table, asked_of, logs_of, received_of, received_logs, submissions, txn_of, session_at}
use Rattle.dt_session.specs.Step.{IsLegal, MaySubmit, upcoming_id, submitted, placed, received, moved_on, answered, next, body_of}
use Rattle.dt_session.specs.Run.{world_after, order_of, txns_of}
use Rattle.dt_agreement.specs.LegalRun.{IsLegalRun}
use Rattle.dt_agreement.specs.Invariant.{history_of, HasRoot, IsRooted, Rooted, Inv}
use Rattle.dt_agreement.proofs.Submissions.{Keeps, WasSubmitted, txns_stay, txns_same}
use Rattle.dt_agreement.proofs.RegionViews.{order_known}
use Rattle.dt_agreement.proofs.Rule1Submit.{Submits, world_made, next_call_submits, made_logs, made_was, made_txns}
use Rattle.dt_agreement.proofs.Rule2Append.{IsNextRequest, append_cases, logs_placed, submissions_placed, submitted_placed, placed_longer, placed_well_formed}
use Rattle.dt_agreement.proofs.Rule6Execute.{executable_known, txns_more}
use Rattle.dt_agreement.proofs.Runs.{ordered, world_after_more, run_more, order_of_more}
use Rattle.dt_agreement.proofs.LegalWorlds.{legal_keeps}
use Rattle.dt_agreement.proofs.MoveHistory.{home_after_last, home_of_target, parts_of_closed, maker_found}
use Rattle.dt_agreement.proofs.RootedAnnotations.{rooted_kept, entries_kept, rooted_longer, opening_rooted, annotated_rooted}

module _ {cluster : Cluster} {workload : Workload} {w : World} {order : List TxnId} (i : Inv cluster workload w order) (rooted : Rooted cluster w order) where
  -- an entry of a transaction is rooted
  abbrev IsRootedFor : TxnId → Access → Type 0
  IsRootedFor t a = IsRooted cluster (logs_of w) (history_of cluster w order a.key) t a

  -- a submission: the old entries stay rooted, and the new ones are
  submit_roots : IsValidCluster cluster → IsValidWorkload cluster workload → (region : ℕ) (name : Bytes) → region < cluster.regions
      → MaySubmit cluster w region (session_at workload.sessions w.places region name)
      → Rooted cluster (submitted cluster workload w region (session_at workload.sessions w.places region name)) order
  submit_roots ok fits region name lr may = subst (λ x. Rooted cluster x order) (sym r.next) (all_put _ (submissions v) each)
    where
      r : Submits cluster workload w region name
      r = next_call_submits i ok region name may

      v : World
      v = world_made r

      logs : logs_of v ≡ logs_of w
      logs = made_logs i ok region name fits lr r

      histories : (key : Bytes) → history_of cluster v order key ≡ history_of cluster w order key
      histories key = ap (λ l. moves_of (table_after cluster.procs l (opening_table cluster)) key) (txns_stay w v (made_txns i ok region name fits lr r) order (order_known i))

      uses : List (Bytes × Mode)
      uses = uses_of cluster.procs (node_at w region).here.table.version (body_of r.call.wanted)

      fresh : AllIn (IsRootedFor (upcoming_id w region)) (map (annotated (node_at w region).here.table) uses)
      fresh = all_image (IsRootedFor (upcoming_id w region)) (annotated (node_at w region).here.table) uses
          (all_put _ uses (λ u h. annotated_rooted i rooted region lr u))

      old : (s : Submission) → Has (submissions w) s → AllIn (IsRootedFor s.txn.id) s.txn.access
      old s h = all_get (λ x. AllIn (IsRootedFor x.txn.id) x.txn.access) (submissions w) rooted s h

      stay : (t : TxnId) (access : List Access) → AllIn (IsRootedFor t) access
          → AllIn (λ a. IsRooted cluster (logs_of v) (history_of cluster v order a.key) t a) access
      stay t access a = entries_kept cluster (logs_of w) (logs_of v) (history_of cluster w order) (history_of cluster v order) logs histories t access a

      each : (s : Submission) → Has (submissions v) s → AllIn (λ a. IsRooted cluster (logs_of v) (history_of cluster v order a.key) s.txn.id a) s.txn.access
      each s h = elim (made_was i ok region name fits lr r s h) [
        | inl k ↦ stay s.txn.id s.txn.access (old s k)
        | inr e ↦ subst (λ x. AllIn (λ a. IsRooted cluster (logs_of v) (history_of cluster v order a.key) x.txn.id a) x.txn.access) e
            (stay (upcoming_id w region) (map (annotated (node_at w region).here.table) uses) fresh)
      ]

  -- a placed request: its part comes after the parts of the movers before it
  module _ (home source : ℕ) (lh : home < cluster.regions) (ls : source < cluster.regions) (txn : Txn) (request : IsNextRequest w home source txn) where
    u : World
    u = placed w home source (Some txn)

    longer : IsLonger (logs_of w) (logs_of u)
    unfolding u
    longer = placed_longer i home source lh ls txn request.number request.request request.found

    formed : IsWellFormed (logs_of u)
    unfolding u
    formed = placed_well_formed i home source lh ls txn request.number request.request request.found

    -- a log before, and after
    abbrev log_was : ℕ → List Part
    log_was h = log_at (logs_of w) h

    abbrev log_now : ℕ → List Part
    log_now h = log_at (logs_of u) h

    -- the moves of an entry's unit, and its home before the first
    abbrev moves : Access → List Moved
    moves a = history_of cluster w order a.key

    abbrev first_home : Access → ℕ
    first_home a = opening_home cluster.regions cluster.homes (unit_of cluster.version a.key)

    -- a log: as before, or with the part at its end
    log_cases : (h : ℕ) → (log_now h ≡ log_was h) ⊎ (log_now h ≡ log_was h ++ part_of txn home ∷ [])
    unfolding u
    log_cases h = by (either_nat h home) (either_le (suc home) (length (logs_of w)))
      where
        longer_log : List Part
        longer_log = log_at (logs_of w) home ++ part_of txn home ∷ []

        is : log_at (logs_of (placed w home source (Some txn))) h ≡ log_at (set (logs_of w) home longer_log) h
        is = ap (λ l. log_at l h) (logs_placed i home source lh ls txn request.number request.request request.found)

        by : Either (h ≡ home) → Either (home < length (logs_of w))
            → (log_at (logs_of (placed w home source (Some txn))) h ≡ log_at (logs_of w) h) ⊎ (log_at (logs_of (placed w home source (Some txn))) h ≡ log_at (logs_of w) h ++ part_of txn home ∷ [])
        by (inr n) l = inl (is ∙ get_or-set_other (logs_of w) home h longer_log [] n)
        by (inl e) (inl lt) = inr (
            is ∙ ap (λ x. log_at (set (logs_of w) home longer_log) x) e ∙ get_or-set_same (logs_of w) home longer_log [] lt
            ∙ ap (λ x. log_at (logs_of w) x ++ part_of txn home ∷ []) (sym e))
        by (inl e) (inr n) = inl (is ∙ ap (λ l. log_at l h) (set_past (logs_of w) home longer_log (omega arith)))

    -- the mover before an entry's number has its part in the log of the entry's home
    mover_there : (a : Access) (c : ℕ) (m : Moved) → slice_get (moves a) c ≡ Some m → IsClosed (logs_of w) m.by
        → a.home ≡ home_after (first_home a) (take (suc c) (moves a)) → HasPart (log_was a.home) m.by
    mover_there a c m e closed homed =
        let x : (y : Txn) × (txn_of w m.by ≡ Some y) × (y.body ≡ Move (unit_of cluster.version a.key) m.target) × IsValid cluster.procs cluster.version cluster.regions y = maker_found i a.key c m e in
        let target : a.home ≡ m.target = homed ∙ home_after_last (first_home a) (moves a) c m e in
        subst (λ h. HasPart (log_was h) m.by) (sym target) (parts_of_closed i m.by x.0 m.target closed x.1 (home_of_target x.0 (unit_of cluster.version a.key) m.target x.2))

    stands : (t : TxnId) (h : ℕ) (by : TxnId) → HasPart (log_was h) by → (HasPart (log_was h) t → StandsBefore (ids_of (log_was h)) by t)
        → HasPart (log_now h) t → StandsBefore (ids_of (log_now h)) by t
    stands t h by there before now = at (log_cases h)
      where
        last : HasPart (part_of txn home ∷ []) t → StandsBefore (ids_of (log_was h) ++ txn.id ∷ []) by t
        last (inl e) = subst (StandsBefore (ids_of (log_was h) ++ txn.id ∷ []) by) e (has_before by txn.id (ids_of (log_was h)) [] (any_image (λ y. y ≡ by) (λ p. p.id) (log_was h) there))
        last (inr f) = absurd f

        at : (log_now h ≡ log_was h) ⊎ (log_now h ≡ log_was h ++ part_of txn home ∷ []) → StandsBefore (ids_of (log_now h)) by t
        at (inl e) = subst (λ l. StandsBefore (ids_of l) by t) (sym e) (before (subst (λ l. HasPart l t) e now))
        at (inr e) = subst (λ l. StandsBefore (ids_of l) by t) (sym e) (subst (λ l. StandsBefore l by t) (sym (map_push (λ p. p.id) (log_was h) (part_of txn home)))
            (elim (any_append (λ p. p.id ≡ t) (log_was h) (part_of txn home ∷ []) (subst (λ l. HasPart l t) e now)) [
              | inl k ↦ some_append_left _ (ids_of (log_was h)) (txn.id ∷ []) (before k)
              | inr k ↦ last k
            ]))

    root_placed : (t : TxnId) (a : Access) → IsRooted cluster (logs_of w) (moves a) t a → IsRooted cluster (logs_of u) (moves a) t a
    root_placed t a r = record { home = r.home; root = go a.counter r.home r.root }
      where
        go : (c : ℕ) → a.home ≡ home_after (first_home a) (take c (moves a)) → HasRoot (logs_of w) t a.home (moves a) c
            → HasRoot (logs_of u) t a.home (moves a) c
        go zero e x = tt
        go (suc c) e x = (
          x.0,
          x.1,
          closed_stays (logs_of w) (logs_of u) longer formed x.0.by x.2,
          (λ s. x.3 (reaches_back (logs_of w) (logs_of u) longer formed s x.2)),
          stands t a.home x.0.by (mover_there a c x.0 x.1 x.2 e) x.4,
        )

    placed_roots : Rooted cluster (placed w home source (Some txn)) order
    unfolding u
    placed_roots = subst (AllIn (λ s. AllIn (λ a. IsRooted cluster (logs_of u) (history_of cluster u order a.key) s.txn.id a) s.txn.access)) (sym same)
        (all_map _ _ (submissions w) (λ s x. all_map _ _ s.txn.access (λ a y. subst (λ l. IsRooted cluster (logs_of u) l s.txn.id a) (sym (histories a.key)) (root_placed s.txn.id a y)) x) rooted)
      where
        same : submissions (placed w home source (Some txn)) ≡ submissions w
        same = submissions_placed i home source lh ls txn request.number request.request request.found

        kept : Keeps (λ n. n.submitted) w (placed w home source (Some txn))
        kept = submitted_placed i home source lh ls txn request.number request.request request.found

        histories : (key : Bytes) → history_of cluster (placed w home source (Some txn)) order key ≡ history_of cluster w order key
        histories key = ap (λ l. moves_of (table_after cluster.procs l (opening_table cluster)) key) (txns_same w (placed w home source (Some txn)) kept order)

  append_roots : (home source number : ℕ) → home < cluster.regions → source < cluster.regions → number < length (asked_of w source home) → Rooted cluster (next cluster workload w (Append home source number)) order
  append_roots home source number lh ls more = elim (append_cases i home source number lh ls more) [
    | inl e ↦ subst (λ x. Rooted cluster x order) (sym e) rooted
    | inr r ↦ subst (λ x. Rooted cluster x order) (sym r.2) (placed_roots home source lh ls r.0 r.1)
  ]

  -- a step by which a region changes only what it made of the logs
  step_roots : (region : ℕ) (h : Replica) → Rooted cluster (with_node w region (record (node_at w region) { here = h })) order
  step_roots region h =
      let node : Node = record (node_at w region) { here = h } in
      rooted_kept cluster w (with_node w region node) order
      (map-set_same (λ n. n.log) w.nodes region node no_node refl)
      (flat_map_of_set (λ n. n.submitted) w.nodes region node no_node refl)
      (field_of_set (λ n. n.submitted) w.nodes region node no_node refl) rooted

  received_roots : (region home last : ℕ) → Rooted cluster (received w region home last) order
  received_roots region home last =
      let node : Node = record (node_at w region) { received = set (node_at w region).received home last } in
      rooted_kept cluster w (received w region home last) order
      (map-set_same (λ n. n.log) w.nodes region node no_node refl)
      (flat_map_of_set (λ n. n.submitted) w.nodes region node no_node refl)
      (field_of_set (λ n. n.submitted) w.nodes region node no_node refl) rooted

  deliver_roots : (region home first last : ℕ) → Rooted cluster (next cluster workload w (Deliver region home first last)) order
  deliver_roots region home first last = go (leb first (received_of w region home) && ltb (received_of w region home) last)
    where
      go : (b : Bool) → Rooted cluster (cond b (received w region home last) w) order
      go true = received_roots region home last
      go false = rooted

  -- one more id in the order makes the history longer
  more_roots : (id : TxnId) (txn : Txn) → txn_of w id ≡ Some txn → Rooted cluster w (order ++ id ∷ [])
  more_roots id txn e =
      all_map _ _ (submissions w)
      (λ s x. all_map _ _ s.txn.access (λ a y. rooted_longer cluster (logs_of w) (history_of cluster w order a.key) (history_of cluster w (order ++ id ∷ []) a.key) s.txn.id a (front a.key) y) x) rooted
    where
      front : (key : Bytes) → IsFront (history_of cluster w order key) (history_of cluster w (order ++ id ∷ []) key)
      front key =
          subst (λ l. IsFront (history_of cluster w order key) (moves_of l key))
          (sym (ap (λ l. table_after cluster.procs l (opening_table cluster)) (txns_more w order id txn e) ∙ table_after_append cluster.procs (txns_of w order) (txn ∷ []) (opening_table cluster)))
          (moves_grow cluster.procs (txn ∷ []) (table_after cluster.procs (txns_of w order) (opening_table cluster)) key)

answer_roots : (cluster : Cluster) (workload : Workload) (w : World) (order : List TxnId) (region : ℕ) (o : Option (Session × Place)) → Rooted cluster w order → Rooted cluster (answered workload w region o) order
answer_roots cluster workload w order region None r = r
answer_roots cluster workload w order region (Some (session, place)) r = r

module _ {cluster : Cluster} {workload : Workload} (ok : IsValidCluster cluster) (fits : IsValidWorkload cluster workload) where
  execute_roots : (w : World) (order : List TxnId) (region : ℕ) (id : TxnId) → region < cluster.regions → MayStep (received_logs w region) (node_at w region).here (Execute region id)
      → Inv cluster workload w order → Rooted cluster w order → Rooted cluster (moved_on cluster w region (Execute region id)) (cond (is_among order id) order (order ++ id ∷ []))
  execute_roots w order region id lr may i r =
      let k : WasSubmitted w id = executable_known i region id lr may in
      let now : Node = record (node_at w region) { here = stepped cluster.procs (txn_of w) (node_at w region).here (Execute region id) } in
      rooted_kept cluster w (moved_on cluster w region (Execute region id)) (cond (is_among order id) order (order ++ id ∷ []))
      (map-set_same (λ n. n.log) w.nodes region now no_node refl)
      (flat_map_of_set (λ n. n.submitted) w.nodes region now no_node refl)
      (field_of_set (λ n. n.submitted) w.nodes region now no_node refl)
      (go (is_among order id) k)
    where
      go : (b : Bool) → WasSubmitted w id → Rooted cluster w (cond b order (order ++ id ∷ []))
      go true k = r
      go false k = more_roots i r id k.0 k.1

  -- a legal event keeps all annotations rooted
  pub next_roots : (w : World) (order : List TxnId) (event : Event) → IsLegal cluster workload w event → Inv cluster workload w order → Rooted cluster w order → Rooted cluster (next cluster workload w event) (ordered order event)
  next_roots w order (Submit region session) l i r = submit_roots i r ok fits region session l.regions l.allowed
  next_roots w order (Append home source number) l i r = append_roots i r home source number l.regions.0 l.regions.1 l.allowed
  next_roots w order (Deliver region home first last) l i r = deliver_roots i r region home first last
  next_roots w order (Insert region home) l i r = step_roots i r region (stepped cluster.procs (txn_of w) (node_at w region).here (Insert region home))
  next_roots w order (Resolve region ids) l i r = step_roots i r region (stepped cluster.procs (txn_of w) (node_at w region).here (Resolve region ids))
  next_roots w order (Execute region id) l i r = execute_roots w order region id l.regions l.allowed i r
  next_roots w order (Answer region session) l i r = answer_roots cluster workload w order region (session_at workload.sessions w.places region session) r

-- in a legal world every annotation is rooted
pub legal_roots : {cluster : Cluster} {workload : Workload} {events : List Event} → IsLegalRun cluster workload events → Rooted cluster (world_after cluster workload events) (order_of events)
legal_roots {cluster = cluster} {workload = workload} {events = events} = from_right (λ es. IsLegalRun cluster workload es → Rooted cluster (world_after cluster workload es) (order_of es))
    (λ run. opening_rooted cluster workload)
    (λ es e keeps run.
    let r : IsLegalRun cluster workload es × IsLegal cluster workload (world_after cluster workload es) e = run_more run in
    subst₂ (Rooted cluster) (sym (world_after_more cluster workload es e)) (sym (order_of_more es e))
    (next_roots run.sound run.fits (world_after cluster workload es) (order_of es) e r.1 (legal_keeps r.0) (keeps r.0)))
    events
