-- The answers about classes, read off the graph of what waits for what among stuck vertices.
use Rattle.std.proofs.Common.{◌≡◌, ◌+◌, ◌<◌, ◌≤◌, ◌^◌, ◌↔◌, ◌∙◌, ℕ, Bool, true, false, IsTrue, List, [], ◌∷◌, length, get_or, map, slice_get, Some, sym, ap, subst, true≢false, arith}
use Rattle.std.proofs.Common.{◌==◌, eqb-true, eq-eqb}
use Rattle.std.proofs.lemmas.List.{length-map}
use Rattle.std.proofs.lemmas.Option.{get_or_from_slice_get, slice_get-get_or, slice_get_within}
use Rattle.dt_lists.specs.Lists.{AnyIn, AllIn, Has, Distinct, EachThen}
use Rattle.dt_lists.proofs.Callers.{all_get, all_image, all_map, all_put, any_get, any_of_image, any_put, at_place, distinct_within, each_map, each_of_image, few_below, has_map, has_place, one_place, place_of}
use Rattle.dt_access.specs.Ids.{AreAscending}
use Rattle.dt_access.specs.declared.TxnId.{TxnId}
use Rattle.dt_access.proofs.Callers.{before_differs}
use Rattle.dt_sched.specs.Views.{View}
use Rattle.dt_sched.specs.Decide.{IsResolvable}
use Rattle.dt_class.specs.Graphs.{AdjView, AreAllBlocked, AreVertices, IsInClass, IsSource, Leads}
use Rattle.dt_queue.specs.Queues.{Waiting}
use Rattle.dt_waits.specs.LeftInGraph.{IsOrderly}
use Rattle.dt_waits.specs.Waits.{id_at}
use Rattle.dt_waits.specs.Graph.{AllAreStuck, AreVerticesOf, GraphView, IsSomeGraph, IsStuck, KeepsGraph}
use Rattle.dt_waits.specs.Among.{IsAmong, WaitsOutside}
use Rattle.dt_graph.specs.SmallStepsInner.{AreIdsAt}
use Rattle.dt_waits.specs.Steps.{HaveSlots}
use Rattle.dt_waits.proofs.Callers.{each_leads, member_stuck, none_blocked, not_all_blocked, place_has, place_leads, same_place, source_resolvable}
use Rattle.dt_graph.proofs.AscendingNumbers.{full_has, full_length}

-- stuck vertices have the slots of their entries
pub stuck_slots : (g : GraphView) → IsSomeGraph g → (list : List ℕ) → AllIn (Has g.stuck) list → HaveSlots g.waiting g.vertices list
stuck_slots g s list all = all_map (Has g.stuck) _ list
    (λ v h. let b : (v < length g.ids) × IsStuck s.view s.resolved s.done (id_at g.ids v) = (s.graph.stuck v).0 h in
    (subst (λ n. v < n) (sym s.graph.vertices) b.0, s.graph.slots v b.0 b.1.left)) all

-- the vertices of ascending ids differ
pub vertices_once : (g : GraphView) (ids : List TxnId) (list : List ℕ) → AreAscending ids → AreVerticesOf g ids list → Distinct list
vertices_once g ids list up are = each_map (λ u v. ¬ (id_at g.ids u ≡ id_at g.ids v)) (λ u v. ¬ (u ≡ v)) list (λ u v n e. n (ap (id_at g.ids) e))
    (each_of_image (λ x y. ¬ (x ≡ y)) (id_at g.ids) list (subst Distinct (sym are.named) (each_map _ _ ids before_differs up)))

-- they are as many as the ids
pub vertices_many : (g : GraphView) (ids : List TxnId) (list : List ℕ) → AreVerticesOf g ids list → length list ≡ length ids
vertices_many g ids list are = sym (length-map list (id_at g.ids)) ∙ ap length are.named

-- whether a list is empty, as its length shows
pub empty_told : (xs : List ℕ) (n : ℕ) (b : Bool) → n ≡ length xs → b ≡ (n == 0) → b ≡ true → length xs ≡ 0
empty_told xs n b e t h = sym e ∙ eqb-true n 0 (sym t ∙ h)

pub filled_told : (xs : List ℕ) (n : ℕ) (b : Bool) → n ≡ length xs → b ≡ (n == 0) → b ≡ false → 0 < length xs
filled_told xs n b e t h = positive (length xs) (λ z. true≢false (sym (eq-eqb n 0 (e ∙ z)) ∙ sym t ∙ h))
  where
    positive : (m : ℕ) → ¬ (m ≡ 0) → 0 < m
    positive m ne = grind (arith, ne)

-- blocked places are vertices
pub blocked_within : (waiting : List Waiting) (list : List ℕ) (graph : AdjView) (blocked : List ℕ) → IsAmong waiting list graph blocked → AllIn (λ v. v < graph.vertices) blocked
blocked_within waiting list graph blocked a = all_put _ blocked (λ p h.
    let r : (v : ℕ) × (slice_get list p ≡ Some v) × WaitsOutside waiting list v = (a.are_blocked p).0 h in
    subst (λ n. p < n) (sym a.vertices) (slice_get_within list p r.0 r.1))

-- so there are few of them
pub vertices_few : (g : GraphView) (list : List ℕ) → length g.ids < 2 ^ 32 → AllIn (λ v. v < length g.ids) g.stuck → Distinct list → AllIn (Has g.stuck) list → length list < 2 ^ 32
vertices_few g list few within once all =
    let n : length list ≤ length g.ids = few_below (length g.ids) list once (all_map _ _ list (λ v h. all_get _ g.stuck within v h) all) in
    omega (arith, few, n)

module _ (view : View) (resolved : List (List TxnId)) (done : List TxnId) (k : IsOrderly view resolved done) (g : GraphView) (is : KeepsGraph view resolved done g) where
  -- a class that may be resolved has several ids, all of them stuck
  pub all_stuck : (ids : List TxnId) → IsResolvable view resolved done ids → AllAreStuck g ids
  all_stuck ids x = all_put _ ids (λ t h.
      let s : IsStuck view resolved done t = member_stuck view resolved done k g is ids x t h in
      let v : (v : ℕ) × (v < length g.ids) × (id_at g.ids v ≡ t) = place_has g.ids t ((is.present t).1 s.left.0) in
      any_put (λ v. id_at g.ids v ≡ t) g.stuck v.0 ((is.stuck v.0).1 (v.1, subst (IsStuck view resolved done) (sym v.2) s)) v.2)

  pub unstuck_not_resolvable : (ids : List TxnId) → (AllAreStuck g ids → ⊥) → IsTrue false ↔ IsResolvable view resolved done ids
  unstuck_not_resolvable ids n = (λ t. absurd (true≢false (sym t)), λ x. absurd (n (all_stuck ids x)))

  -- the ids of stuck vertices
  module _ (ids : List TxnId) (ascending : AreAscending ids) (list : List ℕ) (are : AreVerticesOf g ids list) (graph : AdjView) (blocked : List ℕ) (a : IsAmong g.waiting list graph blocked) where
    once : Distinct list
    once = vertices_once g ids list ascending are

    members : (t : TxnId) → Has (map (id_at g.ids) list) t ↔ Has ids t
    members t = (subst (λ xs. Has xs t) are.named, subst (λ xs. Has xs t) (sym are.named))

    within : AllIn (λ v. v < length g.ids) list
    within = all_map (Has g.stuck) _ list (λ v h. ((is.stuck v).0 h).0) are.stuck

    pub blocked_not_resolvable : 0 < length blocked → IsTrue false ↔ IsResolvable view resolved done ids
    blocked_not_resolvable some = (
      λ t. absurd (true≢false (sym t)),
      λ x. absurd (
          let b : (b : ℕ) × (slice_get blocked 0 ≡ Some b) = at_place blocked 0 some in
          none_blocked view resolved done k g is ids x list graph blocked once a members within b.0 (has_place blocked 0 b.0 b.1)),
    )

    module _ (two : 2 ≤ length ids) (free : blocked ≡ []) (class : List ℕ) (c : AreVertices graph (IsInClass graph 0) class) where
      many : graph.vertices ≡ length list
      many = a.vertices

      several : 0 < length list
      several = let n : length list ≡ length ids = vertices_many g ids list are in omega (arith, two, n)

      none_leads : (q : ℕ) → ¬ (AnyIn (λ b. Leads graph b q) blocked)
      none_leads q h = subst (λ (bs : List ℕ). AnyIn (λ b. Leads graph b q) bs) free h

      -- all are in the class of the first
      whole : IsResolvable view resolved done ids → length class ≡ length ids
      whole x =
          let lead : (p q : ℕ) → p < length list → q < length list → Leads graph p q = each_leads view resolved done k g is ids x list graph blocked once a members within in
          let full : length class + 0 ≡ length list =
          full_length 0 (length list) class c.ascending (all_put _ class (λ v h. least v)) (subst (λ n. AllIn (λ v. v < n) class) many c.within) (least (length list))
          (λ p l lt. (c.members p).1 (lead 0 p several lt, lead p 0 lt several)) in
          let n : length list ≡ length ids = vertices_many g ids list are in
          omega (arith, full, n)
        where
          least : (n : ℕ) → 0 ≤ n
          least n = omega arith

      -- the class of the first is all
      module _ (full : length class ≡ length ids) where
        in_class : (p : ℕ) → p < length list → IsInClass graph 0 p
        in_class p lt = (c.members p).0 (full_has 0 (length list) class c.ascending (all_put _ class (λ v h. least v)) (subst (λ n. AllIn (λ v. v < n) class) many c.within) equal p (least p) lt)
          where
            least : (n : ℕ) → 0 ≤ n
            least n = omega arith

            equal : length class + 0 ≡ length list
            equal = let n : length list ≡ length ids = vertices_many g ids list are in omega (arith, full, n)

        source : IsSource graph blocked 0
        source = record {
          vertex = subst (λ n. 0 < n) (sym many) several;
          first = λ u l. in_class u (by u l (at_place list 0 several));
          free = none_leads 0;
        }
          where
            by : (u : ℕ) → Leads graph u 0 → (v : ℕ) × (slice_get list 0 ≡ Some v) → u < length list
            by u l v = let r = place_leads view resolved done k g is list once (λ w h. all_get _ list are.stuck w h) graph blocked a l v.0 v.1 in slice_get_within list u r.0 r.1

        resolved_of : IsResolvable view resolved done ids
        resolved_of = source_resolvable view resolved done k g is list once (λ v h. all_get _ list are.stuck v h) graph blocked a 0 source ids ascending
            (λ t. (
              λ h. let v : (v : ℕ) × Has list v × (id_at g.ids v ≡ t) = any_get _ list (any_of_image (λ y. y ≡ t) (id_at g.ids) list ((members t).1 h)) in
                  let q : (q : ℕ) × (slice_get list q ≡ Some v.0) = place_of list v.0 v.1 in
                  (q.0, v.0, q.1, v.2, in_class q.0 (slice_get_within list q.0 v.0 q.1)),
              λ r. (members t).0 (subst (Has (map (id_at g.ids) list)) r.3 (has_map (id_at g.ids) list r.1 (has_place list r.0 r.1 r.2))),
            ))

      pub class_told : (b : Bool) → b ≡ (length class == length ids) → IsTrue b ↔ IsResolvable view resolved done ids
      class_told b e = (λ t. resolved_of (eqb-true (length class) (length ids) (sym e ∙ t)), λ x. e ∙ eq-eqb (length class) (length ids) (whole x))

  -- all that are stuck
  module _ (list : List ℕ) (same : list ≡ g.stuck) (once : Distinct list) where
    all_same : (v : ℕ) → Has list v ↔ Has g.stuck v
    all_same v = (subst (λ xs. Has xs v) same, subst (λ xs. Has xs v) (sym same))

    -- one alone is no class
    pub few_stuck : length list < 2 → (ids : List TxnId) → IsResolvable view resolved done ids → ⊥
    few_stuck few ids x =
        let le : length ids ≤ length (map (id_at g.ids) list) =
        distinct_within ids (map (id_at g.ids) list) (each_map _ _ ids before_differs x.group.1.ascending) (all_map _ _ ids (λ t a. named t (any_get _ g.stuck a)) (all_stuck ids x)) in
        omega (arith, few, le, x.several, length-map list (id_at g.ids))
      where
        named : (t : TxnId) → (v : ℕ) × Has g.stuck v × (id_at g.ids v ≡ t) → Has (map (id_at g.ids) list) t
        named t v = subst (Has (map (id_at g.ids) list)) v.2 (has_map (id_at g.ids) list v.0 ((all_same v.0).1 v.1))

    module _ (graph : AdjView) (blocked : List ℕ) (a : IsAmong g.waiting list graph blocked) where
      pub none_chosen : AreAllBlocked graph blocked → (ids : List TxnId) → IsResolvable view resolved done ids → ⊥
      none_chosen all ids x = not_all_blocked view resolved done k g is ids x list graph blocked once all_same a all

      pub chosen : (places : List ℕ) → (v : ℕ) × IsSource graph blocked v × AreVertices graph (IsInClass graph v) places → (ids : List TxnId) → AreIdsAt g.ids list places ids → IsResolvable view resolved done ids
      chosen places s ids at = source_resolvable view resolved done k g is list once (λ v h. (all_same v).0 h) graph blocked a s.0 s.1 ids (at.ascending (differ places s.2.ascending inside))
          (λ t. (
            λ h. let p : (p : ℕ) × Has places p × (id_at g.ids (get_or list p 0) ≡ t) = any_get _ places ((at.members t).0 h) in
                (p.0, get_or list p.0 0, slice_get-get_or list p.0 0 (all_get _ places inside p.0 p.1), p.2, (s.2.members p.0).0 p.1),
            λ r. (at.members t).1 (any_put (λ p. id_at g.ids (get_or list p 0) ≡ t) places r.0 ((s.2.members r.0).1 r.4) (ap (id_at g.ids) (get_or_from_slice_get list r.0 r.1 0 r.2) ∙ r.3)),
          ))
        where
          inside : AllIn (λ p. p < length list) places
          inside = subst (λ n. AllIn (λ p. p < n) places) a.vertices s.2.within

          apart : (p q : ℕ) → p < q → p < length list → q < length list → ¬ (id_at g.ids (get_or list p 0) ≡ id_at g.ids (get_or list q 0))
          apart p q lt lp lq e =
              let u : slice_get list p ≡ Some (get_or list p 0) = slice_get-get_or list p 0 lp in
              let v : slice_get list q ≡ Some (get_or list q 0) = slice_get-get_or list q 0 lq in
              let w : get_or list p 0 ≡ get_or list q 0 = same_place g.ids (get_or list p 0) (get_or list q 0) is.once (below (get_or list p 0) (has_place list p _ u)) (below (get_or list q 0) (has_place list q _ v)) e in
              let x : p ≡ q = one_place list p q (get_or list p 0) once u (v ∙ ap Some (sym w)) in
              omega (arith, lt, x)
            where
              below : (v : ℕ) → Has list v → v < length g.ids
              below v h = ((is.stuck v).0 ((all_same v).0 h)).0

          differ : (ps : List ℕ) → EachThen (λ u v. u < v) ps → AllIn (λ p. p < length list) ps → Distinct (map (λ p. id_at g.ids (get_or list p 0)) ps)
          differ [] up low = tt
          differ (p ∷ ps) up low = (
            all_image (λ y. ¬ (id_at g.ids (get_or list p 0) ≡ y)) (λ p. id_at g.ids (get_or list p 0)) ps (all_put _ ps (λ q h. apart p q (all_get _ ps up.0 q h) low.0 (all_get _ ps low.1 q h))),
            differ ps up.1 low.1,
          )
