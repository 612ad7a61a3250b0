-- The graph of what waits for what among the vertices of a list, as it is built: neighbour by neighbour, slot by slot, place by
-- place.
use Rattle.std.proofs.Common.{◌≡◌, ◌+◌, ◌<◌, ◌⊎◌, ◌↔◌, ◌∙◌, ℕ, Bool, true, false, ◌||◌, IsTrue, List, [], ◌∷◌, ◌++◌}
use Rattle.std.proofs.Common.{length, map, filter, get_or, slice_get, take, Some, refl, sym, subst, inl, inr, true≢false, eqb-true, eq-eqb}
use Rattle.dt_lists.specs.Lists.{AnyIn, AllIn, Has, Distinct}
use Rattle.std.proofs.lemmas.Bool.{or_right}
use Rattle.std.proofs.Math.Bool.{or-false}
use Rattle.std.proofs.lemmas.List.{take_more}
use Rattle.dt_lists.proofs.Callers.{all_image, all_put, any_append, any_append_left, any_append_right, any_get, any_image, any_of_image, any_put, has_filter, has_of_filtered, has_place, one_place}
use Rattle.dt_class.specs.Graphs.{AdjView}
use Rattle.dt_queue.specs.Queues.{IsQueued, Waiting, neighbours}
use Rattle.dt_waits.specs.Waits.{is_of, slots_of}
use Rattle.dt_waits.specs.Among.{HasNeighbour}
use Rattle.dt_graph.specs.LinksInner.{IsSourceAt, IsSourceOf, HasLinked}

-- one source that is in the list
pub links_in : (list : List ℕ) (place : ℕ) (graph : AdjView) (n source : ℕ) → Distinct list → slice_get list source ≡ Some n
    → HasLinked (λ u. n ≡ u) list place graph (record graph { edges = graph.edges ++ record { source = source; target = place } ∷ [] }) false
links_in list place graph n source once at = record {
  vertices = refl;
  edges = λ p q. (
    λ e. elim (any_append _ graph.edges (record { source = source; target = place } ∷ []) e) [
      | inl o ↦ inl o
      | inr k ↦ elim k [ inl s ↦ inr (sym s.1, (n, subst (λ x. slice_get list x ≡ Some n) s.0 at, refl)) | inr f ↦ absurd f ]
    ],
    λ s. elim s [
      | inl o ↦ any_append_left _ graph.edges (record { source = source; target = place } ∷ []) o
      | inr r ↦ any_append_right _ graph.edges (record { source = source; target = place } ∷ [])
          (inl (one_place list source p n once at (subst (λ x. slice_get list p ≡ Some x) (sym r.1.2) r.1.1), sym r.0))
    ],
  );
  is_blocked = (λ b. absurd (true≢false (sym b)), λ r. absurd (r.2 (subst (Has list) r.1 (has_place list source n at))));
}

-- one source that is none of the list
pub links_out : (list : List ℕ) (place : ℕ) (graph : AdjView) (n : ℕ) → ¬ (Has list n) → HasLinked (λ u. n ≡ u) list place graph graph true
links_out list place graph n out = record {
  vertices = refl;
  edges = λ p q. (λ e. inl e, λ s. elim s [ inl e ↦ e | inr r ↦ absurd (out (subst (Has list) (sym r.1.2) (has_place list p r.1.0 r.1.1))) ]);
  is_blocked = (λ b. (n, refl, out), λ r. refl);
}

-- more sources
pub links_more : (S T : ℕ → Type 0) (list : List ℕ) (place : ℕ) (a b c : AdjView) (x y : Bool) → HasLinked S list place a b x → HasLinked T list place b c y → HasLinked (λ u. S u ⊎ T u) list place a c (x || y)
links_more S T list place a b c x y l m = record {
  vertices = m.vertices ∙ l.vertices;
  edges = λ p q. (
    λ e. elim ((m.edges p q).0 e) [
      | inl f ↦ elim ((l.edges p q).0 f) [ inl o ↦ inl o | inr r ↦ inr (r.0, (r.1.0, r.1.1, inl r.1.2)) ]
      | inr r ↦ inr (r.0, (r.1.0, r.1.1, inr r.1.2))
    ],
    λ s. elim s [
      | inl o ↦ (m.edges p q).1 (inl ((l.edges p q).1 (inl o)))
      | inr r ↦ elim r.1.2 [
        | inl i ↦ (m.edges p q).1 (inl ((l.edges p q).1 (inr (r.0, (r.1.0, r.1.1, i)))))
        | inr j ↦ (m.edges p q).1 (inr (r.0, (r.1.0, r.1.1, j)))
      ]
    ],
  );
  is_blocked = (forth x y l.is_blocked m.is_blocked, back x y l.is_blocked m.is_blocked);
}
  where
    forth : (x y : Bool) → (IsTrue x ↔ (u : ℕ) × S u × ¬ (Has list u)) → (IsTrue y ↔ (u : ℕ) × T u × ¬ (Has list u)) → IsTrue (x || y) → (u : ℕ) × (S u ⊎ T u) × ¬ (Has list u)
    forth true y i j t = let r : (u : ℕ) × S u × ¬ (Has list u) = i.0 refl in (r.0, inl r.1, r.2)
    forth false y i j t = let r : (u : ℕ) × T u × ¬ (Has list u) = j.0 t in (r.0, inr r.1, r.2)

    back : (x y : Bool) → (IsTrue x ↔ (u : ℕ) × S u × ¬ (Has list u)) → (IsTrue y ↔ (u : ℕ) × T u × ¬ (Has list u)) → (u : ℕ) × (S u ⊎ T u) × ¬ (Has list u) → IsTrue (x || y)
    back true y i j r = refl
    back false y i j r = elim r.1 [ inl s ↦ absurd (true≢false (sym (i.1 (r.0, s, r.2)))) | inr t ↦ j.1 (r.0, t, r.2) ]

-- the same sources, put otherwise
pub links_same : (S T : ℕ → Type 0) (list : List ℕ) (place : ℕ) (a b : AdjView) (x : Bool) → ((u : ℕ) → S u ↔ T u) → HasLinked S list place a b x → HasLinked T list place a b x
links_same S T list place a b x same l = record {
  vertices = l.vertices;
  edges = λ p q. (
    λ e. elim ((l.edges p q).0 e) [ inl o ↦ inl o | inr r ↦ inr (r.0, (r.1.0, r.1.1, (same r.1.0).0 r.1.2)) ],
    λ s. (l.edges p q).1 (elim s [ inl o ↦ inl o | inr r ↦ inr (r.0, (r.1.0, r.1.1, (same r.1.0).1 r.1.2)) ]),
  );
  is_blocked = (
    λ t. let r : (u : ℕ) × S u × ¬ (Has list u) = l.is_blocked.0 t in (r.0, (same r.0).0 r.1, r.2),
    λ r. l.is_blocked.1 (r.0, (same r.0).1 r.1, r.2),
  );
}

-- the sources of one item more of a list
pub links_next : (S : ℕ → ℕ → Type 0) (xs : List ℕ) (i : ℕ) (list : List ℕ) (place : ℕ) (a b c : AdjView) (x y : Bool) → i < length xs
    → HasLinked (λ u. AnyIn (λ n. S n u) (take i xs)) list place a b x → HasLinked (S (get_or xs i 0)) list place b c y → HasLinked (λ u. AnyIn (λ n. S n u) (take (i + 1) xs)) list place a c (x || y)
links_next S xs i list place a b c x y lt l m =
    links_same (λ u. AnyIn (λ n. S n u) (take i xs) ⊎ S (get_or xs i 0) u) (λ u. AnyIn (λ n. S n u) (take (i + 1) xs)) list place a c (x || y)
    (λ u. (forth u, back u)) (links_more (λ u. AnyIn (λ n. S n u) (take i xs)) (S (get_or xs i 0)) list place a b c x y l m)
  where
    forth : (u : ℕ) → AnyIn (λ n. S n u) (take i xs) ⊎ S (get_or xs i 0) u → AnyIn (λ n. S n u) (take (i + 1) xs)
    forth u s = rw (take_more xs i 0 lt) elim s [
      | inl a ↦ any_append_left (λ n. S n u) (take i xs) (get_or xs i 0 ∷ []) a
      | inr e ↦ any_append_right (λ n. S n u) (take i xs) (get_or xs i 0 ∷ []) (inl e)
    ]

    back : (u : ℕ) → AnyIn (λ n. S n u) (take (i + 1) xs) → AnyIn (λ n. S n u) (take i xs) ⊎ S (get_or xs i 0) u
    back u h = elim (any_append (λ n. S n u) (take i xs) (get_or xs i 0 ∷ []) (rw (take_more xs i 0 lt) at h)) [
      | inl a ↦ inl a
      | inr r ↦ elim r [ inl e ↦ inr e | inr f ↦ absurd f ]
    ]

-- one neighbour more, which is in the list
pub links_next_in : (xs : List ℕ) (i : ℕ) (list : List ℕ) (place : ℕ) (a b c : AdjView) (x y : Bool) (source : ℕ) → Distinct list → i < length xs → HasLinked (Has (take i xs)) list place a b x
    → slice_get list source ≡ Some (get_or xs i 0) → c ≡ record b { edges = b.edges ++ record { source = source; target = place } ∷ [] } → y ≡ x → HasLinked (Has (take (i + 1) xs)) list place a c y
links_next_in xs i list place a b c x y source once lt l at e f =
    subst (λ z. HasLinked (Has (take (i + 1) xs)) list place a z y) (sym e) (subst (HasLinked (Has (take (i + 1) xs)) list place a _) (or-false x ∙ sym f)
    (links_next (λ n u. n ≡ u) xs i list place a b _ x false lt l (links_in list place b (get_or xs i 0) source once at)))

-- one neighbour more, which is none of the list
pub links_next_out : (xs : List ℕ) (i : ℕ) (list : List ℕ) (place : ℕ) (a b c : AdjView) (x y : Bool) → i < length xs → HasLinked (Has (take i xs)) list place a b x
    → ¬ (Has list (get_or xs i 0)) → c ≡ b → y ≡ true → HasLinked (Has (take (i + 1) xs)) list place a c y
links_next_out xs i list place a b c x y lt l out e f =
    subst (λ z. HasLinked (Has (take (i + 1) xs)) list place a z y) (sym e) (subst (HasLinked (Has (take (i + 1) xs)) list place a _) (or_right x true refl ∙ sym f)
    (links_next (λ n u. n ≡ u) xs i list place a b b x true lt l (links_out list place b (get_or xs i 0) out)))

-- the sources are the vertices of entries
pub links_of_entries : (ws : List Waiting) (list : List ℕ) (place : ℕ) (a b : AdjView) (x : Bool) → HasLinked (Has (map (λ w. w.vertex) ws)) list place a b x → HasLinked (λ u. AnyIn (λ w. w.vertex ≡ u) ws) list place a b x
links_of_entries ws list place a b x l =
    links_same (Has (map (λ w. w.vertex) ws)) (λ u. AnyIn (λ w. w.vertex ≡ u) ws) list place a b x
    (λ u. (any_of_image (λ v. v ≡ u) (λ w. w.vertex) ws, any_image (λ v. v ≡ u) (λ w. w.vertex) ws)) l

-- the sources at the slots of a vertex are its neighbours
pub sources_of_vertex : (waiting : List Waiting) (u v : ℕ) → IsSourceAt waiting (slots_of waiting v) u ↔ HasNeighbour waiting u v
sources_of_vertex waiting u v = (
  λ a.
      let w : (w : Waiting) × Has (filter (is_of v) waiting) w × IsSourceOf waiting w.slot u = any_get _ (filter (is_of v) waiting) (any_of_image (λ slot. IsSourceOf waiting slot u) (λ w. w.slot) (filter (is_of v) waiting) a) in
      let h : Has waiting w.0 × (is_of v w.0 ≡ true) = has_of_filtered (is_of v) waiting w.0 w.1 in
      any_put (λ w. (w.vertex ≡ v) × AnyIn (λ n. n.vertex ≡ u) (neighbours waiting w.slot)) waiting w.0 h.0 (eqb-true w.0.vertex v h.1, w.2),
  λ a.
      let w : (w : Waiting) × Has waiting w × ((w.vertex ≡ v) × AnyIn (λ n. n.vertex ≡ u) (neighbours waiting w.slot)) = any_get _ waiting a in
      any_image (λ slot. IsSourceOf waiting slot u) (λ w. w.slot) (filter (is_of v) waiting) (any_put _ (filter (is_of v) waiting) w.0 (has_filter (is_of v) waiting w.0 w.1 (eq-eqb w.0.vertex v w.2.0)) w.2.1),
)

-- at the slots of a vertex entries wait
pub slots_wait : (waiting : List Waiting) (v : ℕ) → AllIn (IsQueued waiting) (slots_of waiting v)
slots_wait waiting v = all_image (IsQueued waiting) (λ w. w.slot) (filter (is_of v) waiting)
    (all_put _ (filter (is_of v) waiting) (λ w h. any_put (λ y. y.slot ≡ w.slot) waiting w (has_of_filtered (is_of v) waiting w h).0 refl))
