-- The graph of what waits for what among the vertices of a list, as it is gathered place by place.
use Rattle.std.proofs.Common.{◌≡◌, ◌+◌, ◌<◌, ◌≤◌, ◌⊎◌, ◌↔◌, ◌∙◌, ℕ, Bool, true, false, IsTrue, List, [], ◌∷◌, ◌++◌, length, get_or, slice_get, Some, sym, ap, subst, inl}
use Rattle.std.proofs.Common.{inr, true≢false, arith}
use Rattle.std.proofs.lemmas.List.{get_or_default}
use Rattle.std.proofs.lemmas.Option.{slice_get-get_or, slice_get_within}
use Rattle.dt_lists.specs.Lists.{Has}
use Rattle.dt_lists.proofs.Callers.{all_get, either_nat, has_last, has_longer, has_more, has_place, some_same}
use Rattle.dt_class.specs.Graphs.{AdjView, IsEdge}
use Rattle.dt_queue.specs.Queues.{Waiting}
use Rattle.dt_waits.specs.Waits.{slots_of}
use Rattle.dt_waits.specs.Among.{HasNeighbour, IsAmong, WaitsOutside}
use Rattle.dt_graph.specs.LinksInner.{IsSourceAt, HasLinked}
use Rattle.dt_waits.specs.declared.vertex.Vertex.{Vertex}
use Rattle.dt_waits.specs.Graph.{vertex_at}
use Rattle.dt_waits.specs.Steps.{HaveSlots}
use Rattle.dt_graph.proofs.WaitEdges.{sources_of_vertex}

-- the vertices at two places, of which the first is a neighbour of the second
abbrev pub IsLinkAt : List Waiting → List ℕ → ℕ → ℕ → Type 0
IsLinkAt waiting list p q = (u : ℕ) × (v : ℕ) × (slice_get list p ≡ Some u) × (slice_get list q ≡ Some v) × HasNeighbour waiting u v

-- the vertex at a place waits outside of the list
abbrev pub IsBlockedAt : List Waiting → List ℕ → ℕ → Type 0
IsBlockedAt waiting list p = (v : ℕ) × (slice_get list p ≡ Some v) × WaitsOutside waiting list v

-- the edges into the places below one are in the graph, and the blocked ones of these places are given
pub record IsGathering (waiting : List Waiting) (list : List ℕ) (place : ℕ) (graph : AdjView) (blocked : List ℕ) : Type 0 where
  pub vertices : graph.vertices ≡ length list
  pub edges : (p q : ℕ) → IsEdge graph p q ↔ (q < place) × IsLinkAt waiting list p q
  pub are_blocked : (p : ℕ) → Has blocked p ↔ (p < place) × IsBlockedAt waiting list p

-- at a place of the list its vertex has the slots of its entries
pub kept_slots : (waiting : List Waiting) (vertices : List Vertex) (list : List ℕ) (p : ℕ) (d : Vertex) → HaveSlots waiting vertices list → p < length list
    → (get_or vertices (get_or list p 0) d).slots ≡ slots_of waiting (get_or list p 0)
kept_slots waiting vertices list p d h lt =
    let v : (get_or list p 0 < length vertices) × ((vertex_at vertices (get_or list p 0)).slots ≡ slots_of waiting (get_or list p 0)) =
    all_get (λ u. (u < length vertices) × ((vertex_at vertices u).slots ≡ slots_of waiting u)) list h (get_or list p 0) (has_place list p (get_or list p 0) (slice_get-get_or list p 0 lt)) in
    ap (λ (x : Vertex). x.slots) (get_or_default vertices (get_or list p 0) d _ v.0) ∙ v.1

-- past the last place all is gathered
pub gathered : (waiting : List Waiting) (list : List ℕ) (place : ℕ) (graph : AdjView) (blocked : List ℕ) → length list ≤ place → IsGathering waiting list place graph blocked
    → IsAmong waiting list graph blocked
gathered waiting list place graph blocked past g = record {
  vertices = g.vertices;
  edges = λ p q. (λ e. ((g.edges p q).0 e).1, λ r. (g.edges p q).1 (below q (slice_get_within list q r.1 r.3), r));
  are_blocked = λ p. (λ h. ((g.are_blocked p).0 h).1, λ r. (g.are_blocked p).1 (below p (slice_get_within list p r.0 r.1), r));
}
  where
    below : (q : ℕ) → q < length list → q < place
    below q lt = omega (arith, lt, past)

-- one place more
module _ (waiting : List Waiting) (list : List ℕ) (place v : ℕ) (graph new : AdjView) (blocked : List ℕ) (b : Bool) (at : slice_get list place ≡ Some v)
    (l : HasLinked (IsSourceAt waiting (slots_of waiting v)) list place graph new b) (g : IsGathering waiting list place graph blocked) where
  below_next : (q : ℕ) → q < place + 1 → (q < place) ⊎ (q ≡ place)
  below_next q lt = elim (either_nat q place) [ inl e ↦ inr e | inr ne ↦ inl (omega (arith, lt, ne)) ]

  next_edges : (p q : ℕ) → IsEdge new p q ↔ (q < place + 1) × IsLinkAt waiting list p q
  next_edges p q = (forth, back)
    where
      forth : IsEdge new p q → (q < place + 1) × IsLinkAt waiting list p q
      forth e = elim ((l.edges p q).0 e) [
        | inl o ↦ let r : (q < place) × IsLinkAt waiting list p q = (g.edges p q).0 o in (omega (arith, r.0), r.1)
        | inr r ↦ (omega (arith, r.0), (r.1.0, v, r.1.1, subst (λ x. slice_get list x ≡ Some v) (sym r.0) at, (sources_of_vertex waiting r.1.0 v).0 r.1.2))
      ]

      back : (q < place + 1) × IsLinkAt waiting list p q → IsEdge new p q
      back r = (l.edges p q).1 (elim (below_next q r.0) [
        | inl lt ↦ inl ((g.edges p q).1 (lt, r.1))
        | inr e ↦ inr (e, (r.1.0, r.1.2, (sources_of_vertex waiting r.1.0 v).1 (subst (HasNeighbour waiting r.1.0) (some_same (sym r.1.3 ∙ subst (λ x. slice_get list x ≡ Some v) (sym e) at)) r.1.4)))
      ])

  -- the place is blocked just where the answer is true
  told : IsTrue b ↔ WaitsOutside waiting list v
  told = (
    λ t. let r : (u : ℕ) × IsSourceAt waiting (slots_of waiting v) u × ¬ (Has list u) = l.is_blocked.0 t in (r.0, (sources_of_vertex waiting r.0 v).0 r.1, r.2),
    λ r. l.is_blocked.1 (r.0, (sources_of_vertex waiting r.0 v).1 r.1, r.2),
  )

  pub gather_blocked : b ≡ true → IsGathering waiting list (place + 1) new (blocked ++ place ∷ [])
  gather_blocked t = record {
    vertices = l.vertices ∙ g.vertices;
    edges = next_edges;
    are_blocked = λ p. (
      λ h. elim (has_more blocked place p h) [
        | inl o ↦ let r : (p < place) × IsBlockedAt waiting list p = (g.are_blocked p).0 o in (omega (arith, r.0), r.1)
        | inr e ↦ (omega (arith, sym e), (v, subst (λ x. slice_get list x ≡ Some v) e at, told.0 t))
      ],
      λ r. elim (below_next p r.0) [
        | inl lt ↦ has_longer blocked (place ∷ []) p ((g.are_blocked p).1 (lt, r.1))
        | inr e ↦ subst (Has (blocked ++ place ∷ [])) (sym e) (has_last blocked place)
      ],
    );
  }

  pub gather_free : b ≡ false → IsGathering waiting list (place + 1) new blocked
  gather_free f = record {
    vertices = l.vertices ∙ g.vertices;
    edges = next_edges;
    are_blocked = λ p. (
      λ h. let r : (p < place) × IsBlockedAt waiting list p = (g.are_blocked p).0 h in (omega (arith, r.0), r.1),
      λ r. elim (below_next p r.0) [
        | inl lt ↦ (g.are_blocked p).1 (lt, r.1)
        | inr e ↦ absurd (true≢false (sym (told.1 (subst (WaitsOutside waiting list) (some_same (sym r.1.1 ∙ subst (λ x. slice_get list x ≡ Some v) (sym e) at)) r.1.2)) ∙ f))
      ],
    );
  }
