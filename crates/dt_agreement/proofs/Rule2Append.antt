-- A placed request keeps the invariant.
use Rattle.std.proofs.Common.{◌≡◌, ◌≢◌, ◌<◌, ◌≤◌, ◌+◌, ◌⊎◌, ℕ, Bool, true, false, cond, eqb, List, [], ◌∷◌, ◌++◌, length, map, get_or, set, take, slice_get}
use Rattle.std.proofs.Common.{Some, refl, sym, ap, ap₂, subst, ◌∙◌, inl, inr, append-nil, arith, eqb-true, eq-eqb}
use Rattle.std.specs.Prelude.{Option, slice_index, option_and_then}
use Rattle.std.proofs.lemmas.Bool.{false_from_ne_true}
use Rattle.std.proofs.lemmas.List.{length-set, length_push, map-set, map_push, take_more, get_or-set_same, get_or-set_other}
use Rattle.std.proofs.lemmas.List.Elements.{filter-append}
use Rattle.std.proofs.lemmas.Option.{get_or_from_slice_get, slice_get_within}
use Rattle.dt_lists.specs.Lists.{AllIn, Has, Either}
use Rattle.dt_lists.proofs.Callers.{either_nat}
use Rattle.dt_lists.proofs.Callers.{field_of_set, flat_map_of_set, each_of_set, all_more, place_of, has_place, at_place}
use Rattle.dt_access.specs.declared.TxnId.{TxnId}
use Rattle.dt_access.specs.declared.Part.{Part}
use Rattle.dt_sched.specs.Views.{ids_of, log_at, IsLonger, IsWellFormed}
use Rattle.dt_sched.proofs.Callers.{preceders_stay}
use Rattle.dt_txn.specs.declared.Txn.{Txn}
use Rattle.dt_txn.specs.Transaction.{homes_of, part_of}
use Rattle.dt_txn.specs.Replica.{after_taking, fronts, done_ids}
use Rattle.dt_events.specs.declared.Event.TheVariants.{Append}
use Rattle.dt_cluster.specs.declared.Cluster.{Cluster}
use Rattle.dt_workload.specs.declared.Workload.{Workload}
use Rattle.dt_session.specs.World.{World, Node, Submission, no_node, node_at, asked_of, taken_of, log_of, logs_of, received_of, view_at, submissions, txn_of}
use Rattle.dt_session.specs.Step.{placed, next}
use Rattle.dt_agreement.specs.Invariant.{IsSized, IsPartAt, given_by, IsLog, AreInOrder, IsExecutedAt, IsOrder, has_home, Inv}
use Rattle.dt_agreement.proofs.InvariantParts.{AreSized, Numbered, Asked, Logs, Lengths, ids_kept, valid_kept, asked_kept, parts_kept, log_kept, sound_kept, tables_kept, sessions_kept}
use Rattle.dt_agreement.proofs.Submissions.{Keeps, txns_same, txn_same, txn_found, from_region}
use Rattle.dt_agreement.proofs.Requests.{request_has}
use Rattle.dt_agreement.proofs.Homes.{home_of_test}
use Rattle.dt_agreement.proofs.Logs.{logs_well_formed}
use Rattle.dt_txn.proofs.Callers.{fronts_grown}
use Rattle.dt_agreement.proofs.Views.{view_is, log_is, grown_longer, received_own, received_other}
use Rattle.dt_agreement.proofs.RegionViews.{view_fronts, order_closed}

-- what a request asks for: a submitted transaction of the source that has a part at the home
pub record IsRequest (w : World) (home source : ℕ) (id : TxnId) : Type 0 where
  pub submission : Submission
  pub there : Has (node_at w source).submitted submission
  pub same : submission.txn.id ≡ id
  pub found : txn_of w id ≡ Some submission.txn
  pub region : id.region ≡ source
  pub home_in : Has (homes_of submission.txn) home

module _ {cluster : Cluster} {workload : Workload} {w : World} {order : List TxnId} (i : Inv cluster workload w order) (home source : ℕ) (lh : home < cluster.regions) (ls : source < cluster.regions) where
  -- each transaction that the source asked the home to place is a submitted one of the source, with a part at the home
  pub request_is : (id : TxnId) → Has (asked_of w source home) id → IsRequest w home source id
  request_is id h =
      let r : (s : Submission) × Has (node_at w source).submitted s × (s.txn.id ≡ id) × (has_home home s.txn ≡ true) = request_has home (node_at w source).submitted id (subst (λ l. Has l id) (i.asked source home ls lh) h) in
      record {
        submission = r.0;
        there = r.1;
        same = r.2;
        found = subst (λ x. txn_of w x ≡ Some r.0.txn) r.2 (txn_found cluster.regions w i.nodes i.ids r.0 (from_region w source r.0 r.1));
        region = ap (λ x. x.region) (sym r.2) ∙ region_of_submission r.0 r.1;
        home_in = home_of_test home r.0.txn r.3;
      }
    where
      region_of_submission : (s : Submission) → Has (node_at w source).submitted s → s.txn.id.region ≡ source
      region_of_submission s k =
          let p : (j : ℕ) × (slice_get (node_at w source).submitted j ≡ Some s) = place_of (node_at w source).submitted s k in
          ap (λ x. x.region) (i.ids source ls p.0 s p.1)

  module _ (txn : Txn) (next_one : slice_get (asked_of w source home) (taken_of w home source) ≡ Some txn.id) (request : IsRequest w home source txn.id) (is : txn_of w txn.id ≡ Some txn) where
    part : Part
    part = part_of txn home

    n' : Node
    unfolding part
    n' = record (node_at w home) { log = log_of w home ++ part ∷ []; here = after_taking (node_at w home).here source }

    v : World
    v = placed w home source (Some txn)

    subs_same : submissions v ≡ submissions w
    unfolding v n'
    subs_same = flat_map_of_set (λ n. n.submitted) w.nodes home n' no_node refl

    keeps : {A : Type 0} (f : Node → A) → f n' ≡ f (node_at w home) → Keeps f w v
    unfolding v n'
    keeps f e = field_of_set f w.nodes home n' no_node e

    node : node_at v home ≡ n'
    unfolding v n'
    node = get_or-set_same w.nodes home n' no_node (subst (λ m. home < m) (sym i.nodes) lh)

    other : (q : ℕ) → q ≢ home → node_at v q ≡ node_at w q
    unfolding v n'
    other q n = get_or-set_other w.nodes home q n' no_node n

    log_now : log_of v home ≡ log_of w home ++ part ∷ []
    unfolding n'
    log_now = ap (λ n. n.log) node

    -- the logs are the old ones, this one with the part at its end
    logs_now : logs_of v ≡ set (logs_of w) home (log_at (logs_of w) home ++ part ∷ [])
    unfolding v n' part
    logs_now = map-set (λ n. n.log) w.nodes home n' ∙ ap (λ l. set (logs_of w) home (l ++ part ∷ [])) (sym (log_is w home))

    nodes_now : length v.nodes ≡ cluster.regions
    unfolding v n'
    nodes_now = length-set w.nodes home n' ∙ i.nodes

    sized : AreSized cluster.regions v
    unfolding v n'
    sized q lt = each_of_set (λ k n. IsSized cluster.regions n) w.nodes home n' no_node
        (let s : IsSized cluster.regions (node_at w home) = i.sized home lh in
        record { asked = s.asked; taken = length-set (node_at w home).here.taken source (taken_of w home source + 1) ∙ s.taken; received = s.received; inserted = s.inserted })
        (λ k lk. i.sized k (subst (λ m. k < m) i.nodes lk)) q (subst (λ m. q < m) (sym i.nodes) lt)

    -- the requests that are taken

    taken_here : taken_of v home source ≡ taken_of w home source + 1
    unfolding n'
    taken_here = ap (λ n. slice_index n.here.taken source) node ∙ get_or-set_same (node_at w home).here.taken source (taken_of w home source + 1) 0 (subst (λ m. source < m) (sym (i.sized home lh).taken) ls)

    taken_other : (s : ℕ) → s ≢ source → taken_of v home s ≡ taken_of w home s
    unfolding n'
    taken_other s n = ap (λ x. slice_index x.here.taken s) node ∙ get_or-set_other (node_at w home).here.taken source s (taken_of w home source + 1) 0 n

    asked_same : (s : ℕ) → asked_of v s home ≡ asked_of w s home
    unfolding n'
    asked_same s = ap (λ l. get_or l home []) (keeps (λ n. n.here.asked) refl s)

    within : taken_of w home source < length (asked_of w source home)
    within = slice_get_within (asked_of w source home) (taken_of w home source) txn.id next_one

    given_now : (s : ℕ) → s < cluster.regions → given_by s (ids_of (log_of v home)) ≡ take (taken_of v home s) (asked_of v s home)
    unfolding part
    given_now s lt = ap (λ l. given_by s (ids_of l)) log_now ∙ ap (given_by s) (map_push (λ p. p.id) (log_of w home) part) ∙ filter-append (λ x. eqb x.region s) (ids_of (log_of w home)) (txn.id ∷ []) ∙ by (either_nat s source)
      where
        by : Either (s ≡ source) → given_by s (ids_of (log_of w home)) ++ given_by s (txn.id ∷ []) ≡ take (taken_of v home s) (asked_of v s home)
        by (inl e) =
            let passes : eqb txn.id.region s ≡ true = eq-eqb txn.id.region s (request.region ∙ sym e) in
            rw passes (ap (λ l. l ++ txn.id ∷ []) ((i.logs home lh).given s lt)
            ∙ subst (λ y. take (taken_of w home y) (asked_of w y home) ++ txn.id ∷ [] ≡ take (taken_of v home y) (asked_of v y home)) (sym e)
            (ap (λ x. take (taken_of w home source) (asked_of w source home) ++ x ∷ []) (sym (get_or_from_slice_get (asked_of w source home) (taken_of w home source) txn.id txn.id next_one))
            ∙ sym (take_more (asked_of w source home) (taken_of w home source) txn.id within)
            ∙ sym (ap₂ take taken_here (asked_same source))))
        by (inr n) =
            let fails : eqb txn.id.region s ≡ false = false_from_ne_true (eqb txn.id.region s) (λ t. n (sym (eqb-true txn.id.region s t) ∙ request.region)) in
            rw fails (append-nil (given_by s (ids_of (log_of w home))) ∙ (i.logs home lh).given s lt ∙ sym (ap₂ take (taken_other s n) (asked_same s)))

    taken_now : (s : ℕ) → s < cluster.regions → taken_of v home s ≤ length (asked_of v s home)
    taken_now s lt = by (either_nat s source)
      where
        before : taken_of w home s ≤ length (asked_of w s home)
        before = (i.logs home lh).taken s lt

        by : Either (s ≡ source) → taken_of v home s ≤ length (asked_of v s home)
        by (inl e) = subst (λ y. taken_of v home y ≤ length (asked_of v y home)) (sym e) (let a : length (asked_of v source home) ≡ length (asked_of w source home) = ap length (asked_same source) in omega (arith, taken_here, within))
        by (inr n) = let a : length (asked_of v s home) ≡ length (asked_of w s home) = ap length (asked_same s) in omega (arith, taken_other s n, before)

    parts_now : AllIn (IsPartAt v home) (log_of v home)
    unfolding part
    parts_now =
        subst (AllIn (IsPartAt v home)) (sym log_now)
        (all_more (IsPartAt v home) (log_of w home) (part_of txn home)
        (parts_kept cluster w v home (λ x t e. same x ∙ e) (log_of w home) (i.logs home lh).parts)
        (txn, same txn.id ∙ is, refl))
      where
        same : (x : TxnId) → txn_of v x ≡ txn_of w x
        same x = txn_same w v (keeps (λ n. n.submitted) (unfold n' in refl)) x

    logs : Logs cluster.regions v
    unfolding n'
    logs h lt = by (either_nat h home)
      where
        by : Either (h ≡ home) → IsLog cluster.regions v h
        by (inl e) = subst (IsLog cluster.regions v) (sym e) (record { parts = parts_now; taken = taken_now; given = given_now })
        by (inr n) = log_kept cluster w v cluster.regions h (ap (λ x. x.log) (other h n)) (ap (λ x. x.here.taken) (other h n)) (keeps (λ n. n.here.asked) refl) (keeps (λ n. n.submitted) refl) (i.logs h lt)

    ids : Numbered cluster.regions v
    unfolding n'
    ids = ids_kept cluster w v cluster.regions (keeps (λ n. n.submitted) refl) i.ids

    asked : Asked cluster.regions v
    unfolding n'
    asked = asked_kept cluster w v cluster.regions (keeps (λ n. n.here.asked) refl) (keeps (λ n. n.submitted) refl) i.asked

    -- lengths

    log_grows : (h : ℕ) → length (log_of w h) ≤ length (log_of v h)
    log_grows h = by (either_nat h home)
      where
        by : Either (h ≡ home) → length (log_of w h) ≤ length (log_of v h)
        by (inl e) = subst (λ y. length (log_of w y) ≤ length (log_of v y)) (sym e) (let a : length (log_of v home) ≡ length (log_of w home) + 1 = ap length log_now ∙ length_push (log_of w home) part in omega arith)
        by (inr n) = let a : length (log_of v h) ≡ length (log_of w h) = ap (λ x. length x.log) (other h n) in omega arith

    lengths : Lengths cluster.regions v
    unfolding n'
    lengths q h lq lt = by (either_nat h q)
      where
        before : AreInOrder w q h
        before = i.lengths q h lq lt

        inserted : slice_index (node_at v q).here.inserted h ≡ slice_index (node_at w q).here.inserted h
        inserted = ap (λ t. get_or t h 0) (keeps (λ n. n.here.inserted) refl q)

        by : Either (h ≡ q) → AreInOrder v q h
        by (inl e) = subst (AreInOrder v q) (sym e) (
            let now : received_of v q q ≡ length (log_of v q) = received_own v q (subst (λ m. q < m) (sym (sized q lq).received) lq) in
            let ins : slice_index (node_at v q).here.inserted q ≡ slice_index (node_at w q).here.inserted q = ap (λ t. get_or t q 0) (keeps (λ n. n.here.inserted) refl q) in
            record { inserted = omega (arith, (i.lengths q q lq lq).inserted, (i.lengths q q lq lq).received, log_grows q); received = omega arith })
        by (inr n) =
            let now : received_of v q h ≡ received_of w q h = received_other v q h n ∙ ap (λ t. get_or t h 0) (keeps (λ n. n.received) refl q) ∙ sym (received_other w q h n) in
            record { inserted = omega (arith, inserted, before.inserted); received = omega (arith, before.received, log_grows h) }

    view_same : (q : ℕ) → q < cluster.regions → view_at v q ≡ view_at w q
    unfolding n'
    view_same q lq =
        let le : slice_index (node_at w q).here.inserted home ≤ length (log_at (logs_of w) home) =
        subst (λ l. slice_index (node_at w q).here.inserted home ≤ length l) (sym (log_is w home)) (let b : AreInOrder w q home = i.lengths q home lq lh in omega (arith, b.inserted, b.received)) in
        view_is v q (λ h lo. (lengths q h lq (subst (λ m. h < m) nodes_now lo)).inserted)
        ∙ ap₂ fronts (keeps (λ n. n.here.inserted) refl q) logs_now
        ∙ fronts_grown (node_at w q).here.inserted (logs_of w) home (part ∷ []) le
        ∙ sym (view_fronts i q lq)

    -- the whole logs are longer, and well formed

    full_longer : IsLonger (logs_of w) (logs_of v)
    full_longer = subst (IsLonger (logs_of w)) (sym logs_now) (grown_longer (logs_of w) home (part ∷ []))

    full_well_formed : IsWellFormed (logs_of v)
    full_well_formed = logs_well_formed cluster.regions v nodes_now ids asked logs

    ordered : IsOrder cluster.regions v order
    unfolding n'
    ordered = record {
      executed = λ x. (
        λ h. let r : (q : ℕ) × (q < cluster.regions) × IsExecutedAt w q x = (i.ordered.executed x).0 h in (r.0, r.1, subst (λ l. Has (map (λ d. d.0) l) x) (sym (keeps (λ n. n.here.done) refl r.0)) r.2),
        λ r. (i.ordered.executed x).1 (r.0, r.1, subst (λ l. Has (map (λ d. d.0) l) x) (keeps (λ n. n.here.done) refl r.0) r.2),
      );
      down = record {
        once = i.ordered.down.once;
        preceders = λ u t h p. i.ordered.down.preceders u t h ((preceders_stay (logs_of w) (logs_of v) full_longer full_well_formed u t (order_closed i t h)).1 p);
      };
    }

    -- the part comes at the end of the home's log, and the logs stay well formed

    pub logs_placed : logs_of (placed w home source (Some txn)) ≡ set (logs_of w) home (log_at (logs_of w) home ++ part_of txn home ∷ [])
    unfolding v part
    logs_placed = logs_now

    pub submissions_placed : submissions (placed w home source (Some txn)) ≡ submissions w
    unfolding v
    submissions_placed = subs_same

    pub submitted_placed : Keeps (λ n. n.submitted) w (placed w home source (Some txn))
    unfolding v n'
    submitted_placed = keeps (λ n. n.submitted) refl

    pub placed_longer : IsLonger (logs_of w) (logs_of (placed w home source (Some txn)))
    unfolding v
    placed_longer = full_longer

    pub placed_well_formed : IsWellFormed (logs_of (placed w home source (Some txn)))
    unfolding v
    placed_well_formed = full_well_formed

    -- the invariant holds of the world after it
    pub placed_keeps : Inv cluster workload (placed w home source (Some txn)) order
    unfolding v n'
    placed_keeps = record {
      nodes = length-set w.nodes home n' ∙ i.nodes;
      sized = sized;
      ids = ids;
      valid = valid_kept cluster w v cluster.regions subs_same i.valid;
      asked = asked;
      logs = logs;
      lengths = lengths;
      sound = sound_kept cluster w v cluster.regions view_same (keeps (λ n. n.here.resolved) refl) (keeps (λ n. n.here.done) refl) i.sound;
      tables = tables_kept cluster w v (λ q lq. txns_same w v (keeps (λ n. n.submitted) refl) (done_ids (node_at w q).here)) (keeps (λ n. n.here.done) refl) (keeps (λ n. n.here.table) refl) i.tables;
      ordered = ordered;
      sessions = sessions_kept cluster w v workload (keeps (λ n. n.submitted) refl) refl i.sessions;
    }

-- the next request of a source is placed, with the transaction that it asks for
pub record IsNextRequest (w : World) (home source : ℕ) (txn : Txn) : Type 0 where
  pub number : slice_get (asked_of w source home) (taken_of w home source) ≡ Some txn.id
  pub request : IsRequest w home source txn.id
  pub found : txn_of w txn.id ≡ Some txn

module _ {cluster : Cluster} {workload : Workload} {w : World} {order : List TxnId} (i : Inv cluster workload w order)
    (home source number : ℕ) (lh : home < cluster.regions) (ls : source < cluster.regions) (more : number < length (asked_of w source home)) where
  -- an append leaves the world, or it places the next request
  pub append_cases : (next cluster workload w (Append home source number) ≡ w)
      ⊎ ((txn : Txn) × IsNextRequest w home source txn × (next cluster workload w (Append home source number) ≡ placed w home source (Some txn)))
  append_cases = go (eqb number (taken_of w home source)) refl
    where
      asks : Option Txn
      asks = option_and_then (txn_of w) (slice_get (asked_of w source home) number)

      go : (b : Bool) → eqb number (taken_of w home source) ≡ b
          → (cond b (placed w home source asks) w ≡ w) ⊎ ((txn : Txn) × IsNextRequest w home source txn × (cond b (placed w home source asks) w ≡ placed w home source (Some txn)))
      go false e = inl refl
      go true e =
          let at : (id : TxnId) × (slice_get (asked_of w source home) number ≡ Some id) = at_place (asked_of w source home) number more in
          let turn : number ≡ taken_of w home source = eqb-true number (taken_of w home source) e in
          let r : IsRequest w home source at.0 = request_is i home source lh ls at.0 (has_place (asked_of w source home) number at.0 at.1) in
          let id : at.0 ≡ r.submission.txn.id = sym r.same in
          inr (
            r.submission.txn,
            record {
              number = subst (λ n. slice_get (asked_of w source home) n ≡ Some r.submission.txn.id) turn (at.1 ∙ ap Some id);
              request = subst (IsRequest w home source) id r;
              found = subst (λ x. txn_of w x ≡ Some r.submission.txn) id r.found;
            },
            ap (λ o. placed w home source (option_and_then (txn_of w) o)) at.1 ∙ ap (placed w home source) r.found,
          )

  pub append_keeps : Inv cluster workload (next cluster workload w (Append home source number)) order
  append_keeps = elim append_cases [
    | inl e ↦ subst (λ x. Inv cluster workload x order) (sym e) i
    | inr r ↦ subst (λ x. Inv cluster workload x order) (sym r.2) (placed_keeps i home source lh ls r.0 r.1.number r.1.request r.1.found)
  ]
