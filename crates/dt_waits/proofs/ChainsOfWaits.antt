-- What waits for what by the queues is enough: of left transactions, a chain of it leads from one to another just where the
-- one reaches the other in the view.
use Rattle.std.proofs.Common.{◌≡◌, ◌≢◌, ◌⊎◌, ◌↔◌, ◌∙◌, ℕ, true, List, [], ◌∷◌, ◌++◌, refl, sym, ap, subst, inl, inr, eqb-true, eq-eqb}
use Rattle.std.proofs.lemmas.Bool.{and_parts, and_from}
use Rattle.std.proofs.lemmas.List.{append_assoc}
use Rattle.dt_lists.specs.Lists.{AnyIn, Has, EachThen, SomeThen}
use Rattle.dt_lists.specs.Chain.{Chain, here, onward}
use Rattle.dt_lists.proofs.Callers.{all_get, any_get, any_put, some_get, some_map, some_of_two, each_across, has_middle, chain_join, chain_step, Spot, spot}
use Rattle.dt_access.specs.Ids.{StandsBefore}
use Rattle.dt_access.specs.Clash.{Bytes, uses_clash, clash}
use Rattle.dt_access.specs.declared.access.Mode.{Mode}
use Rattle.dt_access.specs.declared.TxnId.{TxnId}
use Rattle.dt_access.specs.declared.Part.{Part}
use Rattle.dt_access.proofs.Callers.{clash_of_uses, either_id, uses_of_clash}
use Rattle.dt_sched.specs.Views.{View, log_at, ids_of, AreClashing, Edge, Reaches, IsWellFormed}
use Rattle.dt_sched.proofs.Callers.{edge_at_home, home_of_edge}
use Rattle.dt_waits.specs.LeftInGraph.{IsLeft, LeftEdge, IsFree}
use Rattle.dt_queue.specs.Queues.{Waiting, entries_clash, neighbours}
use Rattle.dt_waits.specs.Waits.{id_at, IsUseOf, WaitsWith, FollowsLog, AreUses, HoldsUp}
use Rattle.dt_waits.proofs.LeftTransactions.{left_chain}
use Rattle.dt_waits.proofs.NeighbourChains.{neighbour_waits, neighbours_split, nearest_clash, IsNeighbour, chain_of_clash}

-- of two parts that clash in a log, the ids stand in their order
ids_stand : (log : List Part) (u t : TxnId) → SomeThen (AreClashing u t) log → StandsBefore (ids_of log) u t
ids_stand [] u t s = absurd s
ids_stand (p ∷ log) u t (inl a) = let r : (q : Part) × Has log q × AreClashing u t p q = any_get _ log a in inl (any_image_of log r.0 r.1 r.2)
  where
    any_image_of : (log : List Part) (q : Part) → Has log q → AreClashing u t p q → AnyIn (λ y. (p.id ≡ u) × (y ≡ t)) (ids_of log)
    any_image_of [] q h c = absurd h
    any_image_of (x ∷ xs) q (inl e) c = inl (c.0, ap (λ y. y.id) e ∙ c.1)
    any_image_of (x ∷ xs) q (inr h) c = inr (any_image_of xs q h c)
ids_stand (p ∷ log) u t (inr s) = inr (ids_stand log u t s)

-- two parts of a log stand as their ids do
parts_stand : (log : List Part) (p q : Part) → Has log p → Has log q → p.id ≢ q.id → ¬ (StandsBefore (ids_of log) q.id p.id) → clash p.keys q.keys ≡ true → SomeThen (AreClashing p.id q.id) log
parts_stand log p q hp hq ne n c =
    elim (some_of_two (λ a b. Unit {0}) log p q hp hq (λ e. ne (ap (λ x. x.id) e)) tt tt) [
      | inl s ↦ some_map _ _ log (λ a b r. (ap (λ x. x.id) r.0, ap (λ x. x.id) r.1, clashing a b r.0 r.1)) s
      | inr s ↦ absurd (n (stands log s))
    ]
  where
    clashing : (a b : Part) → a ≡ p → b ≡ q → clash a.keys b.keys ≡ true
    clashing a b e f = subst (λ x. clash x.keys b.keys ≡ true) (sym e) (subst (λ x. clash p.keys x.keys ≡ true) (sym f) c)

    later : (x : Part) (xs : List Part) → AnyIn (λ b. (x ≡ q) × (b ≡ p) × Unit {0}) xs → AnyIn (λ b. (x.id ≡ q.id) × (b ≡ p.id)) (ids_of xs)
    later x [] a = absurd a
    later x (y ∷ ys) (inl r) = inl (ap (λ z. z.id) r.0, ap (λ z. z.id) r.1)
    later x (y ∷ ys) (inr a) = inr (later x ys a)

    stands : (xs : List Part) → SomeThen (λ a b. (a ≡ q) × (b ≡ p) × Unit {0}) xs → StandsBefore (ids_of xs) q.id p.id
    stands [] s = absurd s
    stands (x ∷ xs) (inl a) = inl (later x xs a)
    stands (x ∷ xs) (inr s) = inr (stands xs s)

-- what clashes waits at one home
pub clash_home : (v w : Waiting) → entries_clash v w ≡ true → (v.home ≡ w.home) × (uses_clash (v.key, v.mode) (w.key, w.mode) ≡ true)
clash_home v w c = let r : (_ ≡ true) × (_ ≡ true) = and_parts _ _ c in (eqb-true v.home w.home r.0, r.1)

pub clash_at_home : (v w : Waiting) → v.home ≡ w.home → uses_clash (v.key, v.mode) (w.key, w.mode) ≡ true → entries_clash v w ≡ true
clash_at_home v w e c = and_from _ _ (eq-eqb v.home w.home e) c

module _ (view : View) (done : List TxnId) (ids : List TxnId) (waiting : List Waiting) (well : IsWellFormed view) (uses : AreUses view done ids waiting) where
  -- where an entry stands before another one, and they clash, there is an edge, if they are of different transactions
  pub edge_of_clash : (front between rest : List Waiting) (v w : Waiting) → waiting ≡ front ++ v ∷ (between ++ w ∷ rest) → entries_clash v w ≡ true
      → id_at ids v.vertex ≢ id_at ids w.vertex → Edge view (id_at ids v.vertex) (id_at ids w.vertex)
  edge_of_clash front between rest v w is c ne = edge_at_home view v.home (id_at ids v.vertex) (id_at ids w.vertex) ne clashing
    where
      at_home : (v.home ≡ w.home) × (uses_clash (v.key, v.mode) (w.key, w.mode) ≡ true)
      at_home = clash_home v w c

      has_v : Has waiting v
      has_v = subst (λ l. Has l v) (sym is) (has_middle front v (between ++ w ∷ rest))

      has_w : Has waiting w
      has_w = subst (λ l. Has l w) (sym (is ∙ sym (append_assoc front (v ∷ between) (w ∷ rest)))) (has_middle (front ++ v ∷ between) w rest)

      ordered : FollowsLog view ids v w
      ordered = each_across (FollowsLog view ids) (front ++ v ∷ []) (between ++ w ∷ rest) v w
          (subst (EachThen (FollowsLog view ids)) (is ∙ sym (append_assoc front (v ∷ []) (between ++ w ∷ rest))) uses.in_order) (has_middle front v []) (has_middle between w rest)

      part_of : (x : Waiting) → Has waiting x → (p : Part) × Has (log_at view x.home) p × IsUseOf ids x p
      part_of x h = any_get _ (log_at view x.home) (all_get _ waiting uses.of_parts x h)

      clashing : SomeThen (AreClashing (id_at ids v.vertex) (id_at ids w.vertex)) (log_at view v.home)
      clashing =
          let p : (p : Part) × Has (log_at view v.home) p × IsUseOf ids v p = part_of v has_v in
          let q : (q : Part) × Has (log_at view w.home) q × IsUseOf ids w q = part_of w has_w in
          let they : clash p.0.keys q.0.keys ≡ true = clash_of_uses p.0.keys q.0.keys (any_put _ p.0.keys (v.key, v.mode) p.2.1 (any_put _ q.0.keys (w.key, w.mode) q.2.1 at_home.1)) in
          subst (λ u. SomeThen (AreClashing u (id_at ids w.vertex)) (log_at view v.home)) p.2.0
          (subst (λ t. SomeThen (AreClashing p.0.id t) (log_at view v.home)) q.2.0
          (parts_stand (log_at view v.home) p.0 q.0 p.1 (subst (λ h. Has (log_at view h) q.0) (sym at_home.0) q.1) (λ e. ne (sym p.2.0 ∙ e ∙ q.2.0))
          (subst (λ t. ¬ (StandsBefore (ids_of (log_at view v.home)) t p.0.id)) (sym q.2.0) (subst (λ u. ¬ (StandsBefore (ids_of (log_at view v.home)) (id_at ids w.vertex) u)) (sym p.2.0) (ordered at_home.0))) they))

  -- a neighbour stands before its follower, and they clash
  pub neighbour_edge : (v w : Waiting) → IsNeighbour waiting v w → id_at ids v.vertex ≢ id_at ids w.vertex → Edge view (id_at ids v.vertex) (id_at ids w.vertex)
  neighbour_edge v w n ne =
      let s : Spot waiting w = spot waiting w n.0 in
      let c : Has s.front v × (entries_clash v w ≡ true) = nearest_clash w s.front v (subst (λ l. Has l v) (neighbours_split waiting s.front w s.rest uses.distinct s.is) n.1) in
      let i : Spot s.front v = spot s.front v c.0 in
      edge_of_clash i.front i.rest s.rest v w (s.is ∙ ap (λ l. l ++ w ∷ s.rest) i.is ∙ append_assoc i.front (v ∷ i.rest) (w ∷ s.rest)) c.1 ne

  -- so there is, where t waits for u
  pub edge_of_waits : (u t : TxnId) → HoldsUp ids waiting u t → Edge view u t
  edge_of_waits u t f =
      let w : (w : Waiting) × Has waiting w × ((id_at ids w.vertex ≡ t) × AnyIn (λ v. id_at ids v.vertex ≡ u) (neighbours waiting w.slot)) = any_get _ waiting f.1 in
      let v : (v : Waiting) × Has (neighbours waiting w.0.slot) v × (id_at ids v.vertex ≡ u) = any_get _ (neighbours waiting w.0.slot) w.2.1 in
      subst (λ x. Edge view x t) v.2 (subst (Edge view (id_at ids v.0.vertex)) w.2.0 (neighbour_edge v.0 w.0 (w.1, v.1) (λ e. f.0 (sym v.2 ∙ e ∙ w.2.0))))

  -- a step to a neighbour is a step between transactions, or within one
  waits_of_neighbour : (v w : Waiting) → IsNeighbour waiting v w → Chain (HoldsUp ids waiting) (id_at ids v.vertex) (id_at ids w.vertex)
  waits_of_neighbour v w n = elim (either_id (id_at ids v.vertex) (id_at ids w.vertex)) [
    | inl e ↦ subst (Chain (HoldsUp ids waiting) (id_at ids v.vertex)) e here
    | inr ne ↦ chain_step (ne, any_put _ waiting w n.0 (refl, any_put _ (neighbours waiting w.slot) v n.1 refl))
  ]

  waits_of_chain : {v w : Waiting} → Chain (IsNeighbour waiting) v w → Chain (HoldsUp ids waiting) (id_at ids v.vertex) (id_at ids w.vertex)
  waits_of_chain here = here
  waits_of_chain (onward {y = x} {z = w} c n) = chain_join (waits_of_chain c) (waits_of_neighbour x w n)

  -- where there is an edge between left ones, a chain of waiting leads along it
  pub waits_of_edge : (u t : TxnId) → LeftEdge view done u t → Chain (HoldsUp ids waiting) u t
  waits_of_edge u t e = at (home_of_edge view u t e.1)
    where
      along : (home : ℕ) → SomeThen (AreClashing u t) (log_at view home) → (v w : Waiting) → Has waiting v → Has waiting w → WaitsWith ids home u (v.key, v.mode) v → WaitsWith ids home t (w.key, w.mode) w
          → uses_clash (v.key, v.mode) (w.key, w.mode) ≡ true → Chain (HoldsUp ids waiting) u t
      along home stand v w hv hw a b c = by (some_of_two (λ x y. Unit {0}) waiting v w hv hw (λ e. e1 (sym a.1 ∙ ap (λ x. id_at ids x.vertex) e ∙ b.1)) tt tt)
        where
          e1 : u ≢ t
          e1 = e.1.0

          clashing : entries_clash v w ≡ true
          clashing = clash_at_home v w (a.0 ∙ sym b.0) c

          wrong : SomeThen (λ x y. (x ≡ w) × (y ≡ v) × Unit {0}) waiting → ⊥
          wrong s = ordered_not waiting uses.in_order s
            where
              it : ¬ (FollowsLog view ids w v)
              it f = f (b.0 ∙ sym a.0) (subst (λ h. StandsBefore (ids_of (log_at view h)) (id_at ids v.vertex) (id_at ids w.vertex)) (sym b.0)
                  (subst (λ x. StandsBefore (ids_of (log_at view home)) x (id_at ids w.vertex)) (sym a.1) (subst (StandsBefore (ids_of (log_at view home)) u) (sym b.1) (ids_stand (log_at view home) u t stand))))

              ordered_not : (entries : List Waiting) → EachThen (FollowsLog view ids) entries → SomeThen (λ x y. (x ≡ w) × (y ≡ v) × Unit {0}) entries → ⊥
              ordered_not [] each s = s
              ordered_not (x ∷ xs) each (inl a) = let r : (y : Waiting) × Has xs y × ((x ≡ w) × (y ≡ v) × Unit {0}) = any_get _ xs a in
                  it (subst (λ z. FollowsLog view ids z v) r.2.0 (subst (FollowsLog view ids x) r.2.1 (all_get (FollowsLog view ids x) xs each.0 r.0 r.1)))
              ordered_not (x ∷ xs) each (inr s) = ordered_not xs each.1 s

          split : (entries : List Waiting) → SomeThen (λ x y. (x ≡ v) × (y ≡ w) × Unit {0}) entries → (front between rest : List Waiting) × (entries ≡ front ++ v ∷ (between ++ w ∷ rest))
          split [] s = absurd s
          split (x ∷ xs) (inl a) =
              let r : (y : Waiting) × Has xs y × ((x ≡ v) × (y ≡ w) × Unit {0}) = any_get _ xs a in
              let s : Spot xs w = spot xs w (subst (Has xs) r.2.1 r.1) in
              ([], s.front, s.rest, ap (λ l. x ∷ l) s.is ∙ ap (λ z. z ∷ (s.front ++ w ∷ s.rest)) r.2.0)
          split (x ∷ xs) (inr s) = let r : (front between rest : List Waiting) × (xs ≡ front ++ v ∷ (between ++ w ∷ rest)) = split xs s in (x ∷ r.0, r.1, r.2, ap (λ l. x ∷ l) r.3)

          by : SomeThen (λ x y. (x ≡ v) × (y ≡ w) × Unit {0}) waiting ⊎ SomeThen (λ x y. (x ≡ w) × (y ≡ v) × Unit {0}) waiting → Chain (HoldsUp ids waiting) u t
          by (inl s) =
              let r : (front between rest : List Waiting) × (waiting ≡ front ++ v ∷ (between ++ w ∷ rest)) = split waiting s in
              subst (λ x. Chain (HoldsUp ids waiting) x t) a.1 (subst (Chain (HoldsUp ids waiting) (id_at ids v.vertex)) b.1 (waits_of_chain (chain_of_clash waiting uses.distinct r.0 r.1 r.2 v w r.3 clashing)))
          by (inr s) = absurd (wrong s)

      at : (home : ℕ) × SomeThen (AreClashing u t) (log_at view home) → Chain (HoldsUp ids waiting) u t
      at h =
          let log : List Part = log_at view h.0 in
          let r : (p q : Part) × Has log p × Has log q × AreClashing u t p q = some_get _ (log_at view h.0) h.1 in
          let a : (a : Bytes × Mode) × Has r.0.keys a × AnyIn (λ b. uses_clash a b ≡ true) r.1.keys = any_get _ r.0.keys (uses_of_clash r.0.keys r.1.keys r.4.2) in
          let b : (b : Bytes × Mode) × Has r.1.keys b × (uses_clash a.0 b ≡ true) = any_get _ r.1.keys a.2 in
          let v : (v : Waiting) × Has waiting v × WaitsWith ids h.0 r.0.id a.0 v = any_get _ waiting (uses.all_wait h.0 r.0 a.0 r.2 (subst (IsLeft view done) (sym r.4.0) e.0) a.1) in
          let w : (w : Waiting) × Has waiting w × WaitsWith ids h.0 r.1.id b.0 w = any_get _ waiting (uses.all_wait h.0 r.1 b.0 r.3 (subst (IsLeft view done) (sym r.4.1) e.2) b.1) in
          along h.0 h.1 v.0 w.0 v.1 w.1 (v.2.0, v.2.1 ∙ r.4.0, refl) (w.2.0, w.2.1 ∙ r.4.1, refl)
          (subst (λ x. uses_clash x (w.0.key, w.0.mode) ≡ true) (sym v.2.2) (subst (λ y. uses_clash a.0 y ≡ true) (sym w.2.2) b.2))

  waits_of_left : {u t : TxnId} → Chain (LeftEdge view done) u t → Chain (HoldsUp ids waiting) u t
  waits_of_left here = here
  waits_of_left (onward {y = x} {z = t} c e) = chain_join (waits_of_left c) (waits_of_edge x t e)

  reach_of_waits : {u t : TxnId} → Chain (HoldsUp ids waiting) u t → Reaches view u t
  reach_of_waits here = here
  reach_of_waits (onward {y = x} {z = t} c f) = onward (reach_of_waits c) (edge_of_waits x t f)

  -- reach by the queues is reach by all edges, from what is left
  pub reach_by_queues : (u t : TxnId) → IsLeft view done u → (Chain (HoldsUp ids waiting) u t ↔ Reaches view u t)
  reach_by_queues u t l = (λ c. reach_of_waits c, λ r. waits_of_left (left_chain view done l r))

  -- t is free where it waits for nothing
  pub free_by_queues : (t : TxnId) → (IsFree view done t ↔ ((u : TxnId) → ¬ (HoldsUp ids waiting u t)))
  free_by_queues t = (waits_not, λ none u l r. alone none (waits_of_left (left_chain view done l r)))
    where
      source_left : (u : TxnId) → HoldsUp ids waiting u t → IsLeft view done u
      source_left u f =
          let w : (w : Waiting) × Has waiting w × ((id_at ids w.vertex ≡ t) × AnyIn (λ v. id_at ids v.vertex ≡ u) (neighbours waiting w.slot)) = any_get _ waiting f.1 in
          let v : (v : Waiting) × Has (neighbours waiting w.0.slot) v × (id_at ids v.vertex ≡ u) = any_get _ (neighbours waiting w.0.slot) w.2.1 in
          subst (IsLeft view done) v.2 (all_get _ waiting uses.of_left v.0 (neighbour_waits waiting uses.distinct w.0 v.0 w.1 v.1))

      waits_not : IsFree view done t → (u : TxnId) → ¬ (HoldsUp ids waiting u t)
      waits_not free u f = f.0 (free u (source_left u f) (chain_step (edge_of_waits u t f)))

      alone : ((u : TxnId) → ¬ (HoldsUp ids waiting u t)) → {u : TxnId} → Chain (HoldsUp ids waiting) u t → u ≡ t
      alone none here = refl
      alone none (onward {y = x} c f) = absurd (none x f)
