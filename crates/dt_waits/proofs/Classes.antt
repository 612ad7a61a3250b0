-- The classes that may be resolved, as they are found among stuck vertices: one that nothing outside of it reaches, nor
-- anything blocked, may be resolved; and where all is reached from what is blocked, there is none.
use Rattle.std.proofs.Common.{◌≡◌, ◌≢◌, ◌<◌, ◌≤◌, ◌↔◌, ◌∙◌, ℕ, List, [], ◌∷◌, length, map, slice_get, Some, refl, sym, ap, subst, inl, inr, arith}
use Rattle.std.proofs.lemmas.Option.{slice_get_within}
use Rattle.dt_lists.specs.Lists.{AnyIn, AllIn, Has, Distinct, Either}
use Rattle.dt_lists.specs.Chain.{here, onward}
use Rattle.dt_lists.proofs.Callers.{all_get, all_put, any_get, any_put, any_map, at_place, chain_before, chain_join, chain_step, chain_takes_back, either_and, either_any, one_place}
use Rattle.dt_lists.proofs.Callers.{either_has, either_nat, either_not, has_map, has_place, place_of, some_same, two_of_different}
use Rattle.dt_access.specs.Ids.{AreAscending}
use Rattle.dt_access.specs.declared.TxnId.{TxnId}
use Rattle.dt_access.proofs.Callers.{before_differs, either_id}
use Rattle.dt_sched.specs.Views.{View, Edge, IsClass, IsComplete, Mutual, Reaches}
use Rattle.dt_sched.specs.Decide.{IsResolvable}
use Rattle.dt_sched.proofs.Callers.{class_of_member, in_own_class, reach_source}
use Rattle.dt_class.specs.Graphs.{AdjView, AreAllBlocked, IsEdge, IsInClass, IsSource, Leads}
use Rattle.dt_queue.specs.Queues.{Waiting, neighbours}
use Rattle.dt_waits.specs.LeftInGraph.{IsLeft, IsFree, IsOrderly}
use Rattle.dt_waits.specs.Waits.{id_at, HoldsUp}
use Rattle.dt_waits.specs.Graph.{GraphView, KeepsGraph, IsStuck}
use Rattle.dt_waits.specs.Among.{HasNeighbour, IsAmong, WaitsOutside}
use Rattle.dt_waits.proofs.LeftTransactions.{done_left, left_after, left_decided, out_of_not_left, resolvable_apart, resolvable_left, undone_before}
use Rattle.dt_waits.proofs.ChainsOfWaits.{edge_of_waits, free_by_queues, reach_by_queues}
use Rattle.dt_waits.proofs.DegreeZero.{place_has, place_in_list, same_place}
use Rattle.dt_waits.proofs.NeighbourChains.{neighbour_waits}

module _ (view : View) (resolved : List (List TxnId)) (done : List TxnId) (k : IsOrderly view resolved done) (g : GraphView) (is : KeepsGraph view resolved done g) where
  -- a neighbour is another vertex with an edge, or the same vertex
  neighbour_reaches : (u v : ℕ) → u < length g.ids → v < length g.ids → HasNeighbour g.waiting u v → u ≢ v → HoldsUp g.ids g.waiting (id_at g.ids u) (id_at g.ids v)
  neighbour_reaches u v lu lv h ne = (
    λ e. ne (same_place g.ids u v is.once lu lv e),
    any_map _ _ g.waiting (λ w a. (ap (id_at g.ids) a.0, any_map _ _ (neighbours g.waiting w.slot) (λ n e. ap (id_at g.ids) e) a.1)) h,
  )

  -- the vertex of a neighbour is one of an entry
  source_in : (u v : ℕ) → HasNeighbour g.waiting u v → (u < length g.ids) × IsLeft view done (id_at g.ids u)
  source_in u v h =
      let w : (w : Waiting) × Has g.waiting w × ((w.vertex ≡ v) × AnyIn (λ n. n.vertex ≡ u) (neighbours g.waiting w.slot)) = any_get _ g.waiting h in
      let n : (n : Waiting) × Has (neighbours g.waiting w.0.slot) n × (n.vertex ≡ u) = any_get _ (neighbours g.waiting w.0.slot) w.2.1 in
      let there : Has g.waiting n.0 = neighbour_waits g.waiting is.uses.distinct w.0 n.0 w.1 n.1 in (
        subst (λ x. x < length g.ids) n.2 (all_get _ g.waiting is.uses.vertices n.0 there),
        subst (λ x. IsLeft view done (id_at g.ids x)) n.2 (all_get _ g.waiting is.uses.of_left n.0 there),
      )

  -- an entry is of a transaction, and has a neighbour of another one
  abbrev HasOther : TxnId → Waiting → Type 0
  HasOther t w = (id_at g.ids w.vertex ≡ t) × AnyIn (λ m. ¬ (id_at g.ids m.vertex ≡ t)) (neighbours g.waiting w.slot)

  -- what isn't free waits for something
  some_waits : (t : TxnId) → ¬ (IsFree view done t) → (u : TxnId) × HoldsUp g.ids g.waiting u t
  some_waits t n = elim (either_any _ g.waiting at) [
    | inl a ↦
        let w : (w : Waiting) × Has g.waiting w × HasOther t w = any_get _ g.waiting a in
        let m : (m : Waiting) × Has (neighbours g.waiting w.0.slot) m × ¬ (id_at g.ids m.vertex ≡ t) = any_get _ (neighbours g.waiting w.0.slot) w.2.1 in
        (id_at g.ids m.0.vertex, (m.2, any_put _ g.waiting w.0 w.1 (w.2.0, any_put _ (neighbours g.waiting w.0.slot) m.0 m.1 refl)))
    | inr none ↦ absurd (n ((free_by_queues view done g.ids g.waiting k.sound.well_formed is.uses t).1 (λ u f.
        none (any_map _ _ g.waiting (λ w a. (a.0, any_map _ _ (neighbours g.waiting w.slot) (λ m e s. f.0 (sym e ∙ s)) a.1)) f.1))))
  ]
    where
      at : (w : Waiting) → Either (HasOther t w)
      at w = either_and _ _ (either_id (id_at g.ids w.vertex) t) (either_any _ (neighbours g.waiting w.slot) (λ m. either_not _ (either_id (id_at g.ids m.vertex) t)))

  -- of a list of stuck vertices, each once
  module _ (list : List ℕ) (once : Distinct list) (all_stuck : (v : ℕ) → Has list v → Has g.stuck v) (graph : AdjView) (blocked : List ℕ) (a : IsAmong g.waiting list graph blocked) where
    stuck_at : (p v : ℕ) → slice_get list p ≡ Some v → (v < length g.ids) × IsStuck view resolved done (id_at g.ids v)
    stuck_at p v e = (is.stuck v).0 (all_stuck v (has_place list p v e))

    -- an edge of the graph is one of the view, or within a vertex
    edge_reaches : (p q u v : ℕ) → slice_get list p ≡ Some u → slice_get list q ≡ Some v → IsEdge graph p q → Reaches view (id_at g.ids u) (id_at g.ids v)
    edge_reaches p q u v eu ev e =
        let r : (u : ℕ) × (v : ℕ) × (slice_get list p ≡ Some u) × (slice_get list q ≡ Some v) × HasNeighbour g.waiting u v = (a.edges p q).0 e in
        by r.0 r.1 r.2 r.3 r.4 (either_nat u v)
      where
        by : (x y : ℕ) → slice_get list p ≡ Some x → slice_get list q ≡ Some y → HasNeighbour g.waiting x y → Either (u ≡ v) → Reaches view (id_at g.ids u) (id_at g.ids v)
        by x y ex ey h (inl s) = subst (λ z. Reaches view (id_at g.ids u) (id_at g.ids z)) s here
        by x y ex ey h (inr ne) = chain_step (edge_of_waits view done g.ids g.waiting k.sound.well_formed is.uses (id_at g.ids u) (id_at g.ids v)
            (neighbour_reaches u v (stuck_at p u eu).0 (stuck_at q v ev).0 (subst (λ z. HasNeighbour g.waiting z v) (some_same (sym ex ∙ eu)) (subst (HasNeighbour g.waiting x) (some_same (sym ey ∙ ev)) h)) ne))

    -- each place that leads to a place is one of the list
    pub place_leads : {p q : ℕ} → Leads graph p q → (v : ℕ) → slice_get list q ≡ Some v → (u : ℕ) × (slice_get list p ≡ Some u) × Reaches view (id_at g.ids u) (id_at g.ids v)
    place_leads here v e = (v, e, here)
    place_leads (onward {y = m} {z = q} c s) v e =
        let r : (u : ℕ) × (w : ℕ) × (slice_get list m ≡ Some u) × (slice_get list q ≡ Some w) × HasNeighbour g.waiting u w = (a.edges m q).0 s in
        let back : (u : ℕ) × (slice_get list _ ≡ Some u) × Reaches view (id_at g.ids u) (id_at g.ids r.0) = place_leads c r.0 r.2 in
        (back.0, back.1, chain_join back.2 (edge_reaches m q r.0 v r.2 e s))

    -- the transaction is at a place that leads to the place q
    abbrev IsAtPlace : ℕ → TxnId → Type 0
    IsAtPlace q t = (p : ℕ) × (w : ℕ) × (slice_get list p ≡ Some w) × (id_at g.ids w ≡ t) × Leads graph p q

    -- where nothing blocked leads to a place, all left ones that reach its transaction are at places that lead there
    reach_back : (q v : ℕ) → slice_get list q ≡ Some v → ¬ (AnyIn (λ b. Leads graph b q) blocked) → (u : TxnId) → IsLeft view done u → Reaches view u (id_at g.ids v)
        → (p : ℕ) × (w : ℕ) × (slice_get list p ≡ Some w) × (id_at g.ids w ≡ u) × Leads graph p q
    reach_back q v e free u l r = chain_takes_back (IsAtPlace q) step ((reach_by_queues view done g.ids g.waiting k.sound.well_formed is.uses u (id_at g.ids v) l).1 r) (q, v, e, refl, here)
      where
        step : (x y : TxnId) → HoldsUp g.ids g.waiting x y → IsAtPlace q y → IsAtPlace q x
        step x y f h =
            let w : (w : Waiting) × Has g.waiting w × ((id_at g.ids w.vertex ≡ y) × AnyIn (λ n. id_at g.ids n.vertex ≡ x) (neighbours g.waiting w.slot)) = any_get _ g.waiting f.1 in
            let n : (n : Waiting) × Has (neighbours g.waiting w.0.slot) n × (id_at g.ids n.vertex ≡ x) = any_get _ (neighbours g.waiting w.0.slot) w.2.1 in
            let same : w.0.vertex ≡ h.1 = same_place g.ids w.0.vertex h.1 is.once (all_get _ g.waiting is.uses.vertices w.0 w.1) (stuck_at h.0 h.1 h.2).0 (w.2.0 ∙ sym h.3) in
            by h.0 h.1 h.2 h.4 n.0 n.2 (any_put _ g.waiting w.0 w.1 (same, any_put _ (neighbours g.waiting w.0.slot) n.0 n.1 refl)) (either_has list n.0.vertex either_nat)
          where
            by : (p w : ℕ) → slice_get list p ≡ Some w → Leads graph p q → (n : Waiting) → id_at g.ids n.vertex ≡ x → HasNeighbour g.waiting n.vertex w → Either (Has list n.vertex) → IsAtPlace q x
            by p w at leads n named nb (inl m) =
                let i : (i : ℕ) × (slice_get list i ≡ Some n.vertex) = place_of list n.vertex m in
                (i.0, n.vertex, i.1, named, chain_before ((a.edges i.0 p).1 (n.vertex, w, i.1, at, nb)) leads)
            by p w at leads n named nb (inr out) = absurd (free (any_put (λ b. Leads graph b q) blocked p ((a.are_blocked p).1 (w, at, (n.vertex, nb, out))) leads))

    -- what is found: the ids at the places of a source class
    module _ (p : ℕ) (source : IsSource graph blocked p) (ids : List TxnId) (ascending : AreAscending ids)
        (found : (t : TxnId) → Has ids t ↔ (q : ℕ) × (w : ℕ) × (slice_get list q ≡ Some w) × (id_at g.ids w ≡ t) × IsInClass graph p q) where
      vertex : (v : ℕ) × (slice_get list p ≡ Some v)
      vertex = at_place list p (subst (λ n. p < n) a.vertices source.vertex)

      stuck : IsStuck view resolved done (id_at g.ids vertex.0)
      stuck = (stuck_at p vertex.0 vertex.1).1

      -- what is left and reaches it is found
      found_of_reach : (u : TxnId) → IsLeft view done u → Reaches view u (id_at g.ids vertex.0) → Has ids u
      found_of_reach u l r =
          let b : (q : ℕ) × (w : ℕ) × (slice_get list q ≡ Some w) × (id_at g.ids w ≡ u) × Leads graph q p = reach_back p vertex.0 vertex.1 source.free u l r in
          (found u).1 (b.0, b.1, b.2, b.3, source.first b.0 b.4)

      found_mutual : (t : TxnId) → Has ids t → Mutual view t (id_at g.ids vertex.0)
      found_mutual t h =
          let f : (q : ℕ) × (w : ℕ) × (slice_get list q ≡ Some w) × (id_at g.ids w ≡ t) × IsInClass graph p q = (found t).0 h in
          let back : (u : ℕ) × (slice_get list f.0 ≡ Some u) × Reaches view (id_at g.ids u) (id_at g.ids vertex.0) = place_leads f.4.1 vertex.0 vertex.1 in
          let forth : (u : ℕ) × (slice_get list p ≡ Some u) × Reaches view (id_at g.ids u) (id_at g.ids f.1) = place_leads f.4.0 f.1 f.2 in (
            subst (λ x. Reaches view x (id_at g.ids vertex.0)) (ap (id_at g.ids) (some_same (sym back.1 ∙ f.2)) ∙ f.3) back.2,
            subst (λ x. Reaches view (id_at g.ids vertex.0) x) f.3 (subst (λ x. Reaches view (id_at g.ids x) (id_at g.ids f.1)) (some_same (sym forth.1 ∙ vertex.1)) forth.2),
          )

      its_class : IsClass view (id_at g.ids vertex.0) ids
      its_class = record { ascending = ascending; members = λ t. (λ h. found_mutual t h, λ m. found_of_reach t (left_after view done stuck.left m.1) m.0) }

      itself : Has ids (id_at g.ids vertex.0)
      itself = in_own_class view (id_at g.ids vertex.0) ids its_class

      pub source_resolvable : IsResolvable view resolved done ids
      source_resolvable = record {
        group = (id_at g.ids vertex.0, its_class);
        several = (let u : (u : TxnId) × HoldsUp g.ids g.waiting u (id_at g.ids vertex.0) = some_waits (id_at g.ids vertex.0) stuck.waits in
            let e : Edge view u.0 (id_at g.ids vertex.0) = edge_of_waits view done g.ids g.waiting k.sound.well_formed is.uses u.0 (id_at g.ids vertex.0) u.1 in
            two_of_different ids u.0 (id_at g.ids vertex.0) (found_of_reach u.0 (waits_left u.0 u.1) (chain_step e)) itself u.1.0);
        complete = all_put (IsComplete view) ids (λ t h. let f : (q : ℕ) × (w : ℕ) × (slice_get list q ≡ Some w) × (id_at g.ids w ≡ t) × IsInClass graph p q = (found t).0 h in
            subst (IsComplete view) f.3 (stuck_at f.0 f.1 f.2).1.complete);
        unresolved = λ h. stuck.apart (any_put (λ c. Has c (id_at g.ids vertex.0)) resolved ids h itself);
        before = λ u t h r. elim (left_decided view done u) [
          | inl l ↦ inl (found_of_reach u l (chain_join r (found_mutual t h).0))
          | inr n ↦ elim (reach_source view r) [ inl e ↦ inl (subst (Has ids) (sym e) h) | inr q ↦ inr (out_of_not_left view done u q n u here) ]
        ];
      }
        where
          waits_left : (u : TxnId) → HoldsUp g.ids g.waiting u (id_at g.ids vertex.0) → IsLeft view done u
          waits_left u f =
              let w : (w : Waiting) × Has g.waiting w × ((id_at g.ids w.vertex ≡ id_at g.ids vertex.0) × AnyIn (λ n. id_at g.ids n.vertex ≡ u) (neighbours g.waiting w.slot)) = any_get _ g.waiting f.1 in
              let n : (n : Waiting) × Has (neighbours g.waiting w.0.slot) n × (id_at g.ids n.vertex ≡ u) = any_get _ (neighbours g.waiting w.0.slot) w.2.1 in
              subst (IsLeft view done) n.2 (all_get _ g.waiting is.uses.of_left n.0 (neighbour_waits g.waiting is.uses.distinct w.0 n.0 w.1 n.1))

  -- of a class that may be resolved
  module _ (ids : List TxnId) (x : IsResolvable view resolved done ids) where
    class_at : (t : TxnId) → Has ids t → IsClass view t ids
    class_at t h = class_of_member view x.group.0 t ids x.group.1 h

    -- each member is stuck
    pub member_stuck : (t : TxnId) → Has ids t → IsStuck view resolved done t
    member_stuck t h = record {
      left = resolvable_left view resolved done ids k x t h;
      complete = all_get _ ids x.complete t h;
      apart = resolvable_apart view resolved done ids k x t h;
      waits = λ free. single free;
    }
      where
        other : (u : TxnId) × Has ids u × (u ≢ t)
        other = by ids x.several (class_at t h).ascending (λ u m. m)
          where
            by : (us : List TxnId) → 2 ≤ length us → AreAscending us → ((u : TxnId) → Has us u → Has ids u) → (u : TxnId) × Has ids u × (u ≢ t)
            by [] two up among = absurd (omega (arith, two))
            by (u ∷ []) two up among = absurd (omega (arith, two))
            by (u ∷ w ∷ us) two up among = elim (either_id u t) [
              | inr ne ↦ (u, among u (inl refl), ne)
              | inl e ↦ (w, among w (inr (inl refl)), λ s. before_differs u w up.0.0 (e ∙ sym s))
            ]

        single : IsFree view done t → ⊥
        single free =
            let m : Mutual view other.0 t = ((class_at t h).members other.0).0 other.1 in
            other.2 (free other.0 (resolvable_left view resolved done ids k x other.0 other.1) m.0)

    -- a neighbour of a member is a member
    neighbour_member : (u v : ℕ) → v < length g.ids → HasNeighbour g.waiting u v → Has ids (id_at g.ids v) → Has ids (id_at g.ids u)
    neighbour_member u v lv nb h = elim (either_nat u v) [
      | inl e ↦ subst (λ y. Has ids (id_at g.ids y)) (sym e) h
      | inr ne ↦
          let from : (u < length g.ids) × IsLeft view done (id_at g.ids u) = source_in u v nb in
          let r : Reaches view (id_at g.ids u) (id_at g.ids v) = chain_step (edge_of_waits view done g.ids g.waiting k.sound.well_formed is.uses (id_at g.ids u) (id_at g.ids v) (neighbour_reaches u v from.0 lv nb ne)) in
          elim (x.before (id_at g.ids u) (id_at g.ids v) h r) [ inl m ↦ m | inr d ↦ through from.1 r ]
    ]
      where
        through : IsLeft view done (id_at g.ids u) → Reaches view (id_at g.ids u) (id_at g.ids v) → Has ids (id_at g.ids u)
        through l r =
            let y : (y : TxnId) × Reaches view y (id_at g.ids u) × ¬ (Has done y) = undone_before view done (id_at g.ids u) l.1 in
            elim (x.before y.0 (id_at g.ids v) h (chain_join y.1 r)) [
              | inl m ↦ ((class_at (id_at g.ids v) h).members (id_at g.ids u)).1 (r, chain_join (((class_at (id_at g.ids v) h).members y.0).0 m).1 y.1)
              | inr d ↦ absurd (y.2 d)
            ]

    -- what is stuck and reaches a member is a member
    stuck_member : (u t : TxnId) → IsStuck view resolved done u → Has ids t → Reaches view u t → Has ids u
    stuck_member u t s h r = elim (x.before u t h r) [ inl m ↦ m | inr d ↦ absurd (s.apart (done_left view resolved done u k s.left d)) ]

    -- so nothing outside of the stuck ones is waited for by a stuck one that reaches it
    pub not_all_blocked : (list : List ℕ) (graph : AdjView) (blocked : List ℕ) → Distinct list → ((v : ℕ) → Has list v ↔ Has g.stuck v) → IsAmong g.waiting list graph blocked → AreAllBlocked graph blocked → ⊥
    not_all_blocked list graph blocked once all a blocks =
        let t : TxnId = x.group.0 in
        let h : Has ids x.group.0 = in_own_class view x.group.0 ids x.group.1 in
        let v : (v : ℕ) × (v < length g.ids) × (id_at g.ids v ≡ x.group.0) = place_has g.ids x.group.0 ((is.present x.group.0).1 (member_stuck x.group.0 h).left.0) in
        at v.0 v.1 (subst (Has ids) (sym v.2) h)
      where
        by_block : (v p b : ℕ) → slice_get list p ≡ Some v → Has ids (id_at g.ids v) → Has blocked b → Leads graph b p → ⊥
        by_block v p b e h m leads =
            let w : (w : ℕ) × (slice_get list b ≡ Some w) × Reaches view (id_at g.ids w) (id_at g.ids v) = place_leads list once (λ u m. (all u).0 m) graph blocked a leads v e in
            let o : (w : ℕ) × (slice_get list b ≡ Some w) × WaitsOutside g.waiting list w = (a.are_blocked b).0 m in
            let s : (w.0 < length g.ids) × IsStuck view resolved done (id_at g.ids w.0) = stuck_at list once (λ u m. (all u).0 m) graph blocked a b w.0 w.1 in
            outside w.0 s.0 (subst (WaitsOutside g.waiting list) (some_same (sym o.1 ∙ w.1)) o.2) (stuck_member (id_at g.ids w.0) (id_at g.ids v) s.1 h w.2)
          where
            outside : (w : ℕ) → w < length g.ids → WaitsOutside g.waiting list w → Has ids (id_at g.ids w) → ⊥
            outside w lw o h =
                let m : Has ids (id_at g.ids o.0) = neighbour_member o.0 w lw o.1 h in
                o.2 ((all o.0).1 ((is.stuck o.0).1 ((source_in o.0 w o.1).0, member_stuck (id_at g.ids o.0) m)))

        at : (v : ℕ) → v < length g.ids → Has ids (id_at g.ids v) → ⊥
        at v lt h =
            let m : Has list v = (all v).1 ((is.stuck v).1 (lt, member_stuck (id_at g.ids v) h)) in
            let p : (p : ℕ) × (slice_get list p ≡ Some v) = place_of list v m in
            let b : (b : ℕ) × Has blocked b × Leads graph b p.0 = any_get _ blocked (blocks p.0 (subst (λ n. p.0 < n) (sym a.vertices) (slice_get_within list p.0 v p.1))) in
            by_block v p.0 b.0 p.1 h b.1 b.2

    -- among its members nothing is blocked, and each leads to each
    module _ (list : List ℕ) (graph : AdjView) (blocked : List ℕ) (once : Distinct list) (a : IsAmong g.waiting list graph blocked) (members : (t : TxnId) → Has (map (id_at g.ids) list) t ↔ Has ids t)
        (in_ids : AllIn (λ v. v < length g.ids) list) where
      of_list : (v : ℕ) → Has list v → Has ids (id_at g.ids v)
      of_list v h = (members (id_at g.ids v)).0 (has_map (id_at g.ids) list v h)

      in_list : (v : ℕ) → v < length g.ids → Has ids (id_at g.ids v) → Has list v
      in_list v lt h = place_in_list g.ids list v is.once in_ids lt ((members (id_at g.ids v)).1 h)

      all_stuck : (v : ℕ) → Has list v → Has g.stuck v
      all_stuck v h = (is.stuck v).1 (all_get _ list in_ids v h, member_stuck (id_at g.ids v) (of_list v h))

      pub none_blocked : (p : ℕ) → ¬ (Has blocked p)
      none_blocked p h =
          let o : (w : ℕ) × (slice_get list p ≡ Some w) × WaitsOutside g.waiting list w = (a.are_blocked p).0 h in
          let m : Has list o.0 = has_place list p o.0 o.1 in
          o.2.2 (in_list o.2.0 (source_in o.2.0 o.0 o.2.1).0 (neighbour_member o.2.0 o.0 (all_get _ list in_ids o.0 m) o.2.1 (of_list o.0 m)))

      pub each_leads : (p q : ℕ) → p < length list → q < length list → Leads graph p q
      each_leads p q lp lq =
          let u : (u : ℕ) × (slice_get list p ≡ Some u) = at_place list p lp in
          let v : (v : ℕ) × (slice_get list q ≡ Some v) = at_place list q lq in
          let hu : Has ids (id_at g.ids u.0) = of_list u.0 (has_place list p u.0 u.1) in
          let hv : Has ids (id_at g.ids v.0) = of_list v.0 (has_place list q v.0 v.1) in
          let m : Mutual view (id_at g.ids u.0) (id_at g.ids v.0) = ((class_at (id_at g.ids v.0) hv).members (id_at g.ids u.0)).0 hu in
          let b : (i : ℕ) × (w : ℕ) × (slice_get list i ≡ Some w) × (id_at g.ids w ≡ id_at g.ids u.0) × Leads graph i q =
          reach_back list once all_stuck graph blocked a q v.0 v.1
          (λ e. let n : (n : ℕ) × Has blocked n × Leads graph n q = any_get _ blocked e in none_blocked n.0 n.1) (id_at g.ids u.0) (member_stuck (id_at g.ids u.0) hu).left m.0 in
          subst (λ i. Leads graph i q) (one_place list b.0 p u.0 once
          (subst (λ w. slice_get list b.0 ≡ Some w) (same_place g.ids b.1 u.0 is.once (all_get _ list in_ids b.1 (has_place list b.0 b.1 b.2)) (all_get _ list in_ids u.0 (has_place list p u.0 u.1)) b.3) b.2) u.1) b.4
