-- Putting a vertex to the ready ones or to the stuck ones, step by step.
use Rattle.std.proofs.Common.{◌≡◌, ◌≢◌, ◌↔◌, ◌⊎◌, ℕ, List, get_or, inl, inr}
use Rattle.dt_waits.specs.declared.vertex.Vertex.{Vertex}
use Rattle.dt_waits.specs.Graph.{vertex_at}
use Rattle.dt_graph.specs.SubsetInner.{PutsIn}
use Rattle.dt_graph.specs.SmallStepsInner.{Sorts}

-- where it is put in, for two reasons
since : {A B C D E : Type 0} → A ↔ B ⊎ C → D → E → A ↔ B ⊎ C × D × E
since p d e = (λ h. elim (p.0 h) [ inl o ↦ inl o | inr c ↦ inr (c, d, e) ], λ s. p.1 (elim s [ inl o ↦ inl o | inr r ↦ inr r.0 ]))

-- it is complete and of degree 0
pub sorts_ready : (v : ℕ) (vertices : List Vertex) (degrees : List ℕ) (ready stuck now : List ℕ) → (vertex_at vertices v).missing ≡ 0 → get_or degrees v 0 ≡ 0 → PutsIn v ready now
    → Sorts v vertices degrees ready stuck now stuck
sorts_ready v vertices degrees ready stuck now m d p = record {
  readied = λ u. since (p u) m d;
  stuck_more = λ u. (λ h. inl h, λ s. elim s [ inl o ↦ o | inr r ↦ absurd (r.2 d) ]);
}

-- it is complete and of a higher degree
pub sorts_stuck : (v : ℕ) (vertices : List Vertex) (degrees : List ℕ) (ready stuck now : List ℕ) → (vertex_at vertices v).missing ≡ 0 → get_or degrees v 0 ≢ 0 → PutsIn v stuck now
    → Sorts v vertices degrees ready stuck ready now
sorts_stuck v vertices degrees ready stuck now m d p = record {
  readied = λ u. (λ h. inl h, λ s. elim s [ inl o ↦ o | inr r ↦ absurd (d r.2) ]);
  stuck_more = λ u. since (p u) m d;
}
