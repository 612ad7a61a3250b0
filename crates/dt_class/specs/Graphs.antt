-- Directed graphs: a number of vertices and a list of edges. One vertex reaches another where a chain of edges leads from
-- it there; each reaches itself. The class of a vertex is what it reaches and is reached from: in a graph of what waits
-- for what, a deadlock is a class of two or more. The contracts of `Adj` are in these words alone. Read next: src/adj.rt;
-- LinksInner.antt and FindsInner.antt are for whoever changes its code.
use Rattle.std.specs.Prelude.{◌≡◌, ℕ, ◌<◌, ◌↔◌, List}
use Rattle.dt_lists.specs.Lists.{AnyIn, AllIn, EachThen, Has}
use Rattle.dt_lists.specs.Chain.{Chain}

-- an edge, from the vertex where it begins to the vertex where it ends
pub record AdjEdge : Type 0 where
  pub source : ℕ
  pub target : ℕ

-- a graph: the number of its vertices, which are the numbers below it, and its edges, in the order in which they were added
pub record AdjView : Type 0 where
  pub vertices : ℕ
  pub edges : List AdjEdge

-- some edge of the graph goes from u to v
abbrev pub IsEdge : AdjView → ℕ → ℕ → Type 0
IsEdge graph u v = AnyIn (λ e. (e.source ≡ u) × (e.target ≡ v)) graph.edges

-- u reaches v in the graph: a chain of edges leads from u to v, or they are the same
abbrev pub Leads : AdjView → ℕ → ℕ → Type 0
Leads graph u v = Chain (IsEdge graph) u v

-- v is in the class of u: each of the two reaches the other
abbrev pub IsInClass : AdjView → ℕ → ℕ → Type 0
IsInClass graph u v = Leads graph u v × Leads graph v u

-- the list has just what P holds of, all of it vertices of the graph, in ascending order
pub record AreVertices (graph : AdjView) (P : ℕ → Type 0) (list : List ℕ) : Type 0 where
  pub ascending : EachThen (λ u v. u < v) list
  pub within : AllIn (λ v. v < graph.vertices) list
  pub members : (v : ℕ) → Has list v ↔ P v

-- v is a vertex, whatever reaches v is in its class, and none of the blocked vertices reaches v: so nothing outside of
-- the class of v reaches the class
pub record IsSource (graph : AdjView) (blocked : List ℕ) (v : ℕ) : Type 0 where
  pub vertex : v < graph.vertices
  pub first : (u : ℕ) → Leads graph u v → IsInClass graph v u
  pub free : ¬ (AnyIn (λ b. Leads graph b v) blocked)

-- each vertex is reached from some blocked one
abbrev pub AreAllBlocked : AdjView → List ℕ → Type 0
AreAllBlocked graph blocked = (v : ℕ) → v < graph.vertices → AnyIn (λ b. Leads graph b v) blocked
