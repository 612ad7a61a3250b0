-- What vertices of a list wait for among themselves, as a directed graph (dt_class): its vertices are the places of the list,
-- and an edge goes from the place of a neighbour to the place of what waits for it. A place is blocked where its vertex has a
-- neighbour that isn't in the list. A class of stuck vertices that nothing outside of it reaches, and nothing blocked, is one
-- that may be resolved; that it is so is in proofs/Classes.antt. Read next: LinksInner.antt of dt_graph, for how it is built.
use Rattle.std.specs.Prelude.{◌≡◌, ◌↔◌, ℕ, List, length, slice_get, Some}
use Rattle.dt_lists.specs.Lists.{AnyIn, Has}
use Rattle.dt_class.specs.Graphs.{AdjView, IsEdge}
use Rattle.dt_queue.specs.Queues.{Waiting, neighbours}

-- some entry of u is a neighbour of some entry of v
abbrev pub HasNeighbour : List Waiting → ℕ → ℕ → Type 0
HasNeighbour waiting u v = AnyIn (λ w. (w.vertex ≡ v) × AnyIn (λ n. n.vertex ≡ u) (neighbours waiting w.slot)) waiting

-- the vertex at a place of the list has a neighbour that is not in the list
abbrev pub WaitsOutside : List Waiting → List ℕ → ℕ → Type 0
WaitsOutside waiting list v = (u : ℕ) × HasNeighbour waiting u v × ¬ (Has list u)

-- the graph and the blocked places are those of the list
pub record IsAmong (waiting : List Waiting) (list : List ℕ) (graph : AdjView) (blocked : List ℕ) : Type 0 where
  pub vertices : graph.vertices ≡ length list
  pub edges : (p q : ℕ) → IsEdge graph p q ↔ (u : ℕ) × (v : ℕ) × (slice_get list p ≡ Some u) × (slice_get list q ≡ Some v) × HasNeighbour waiting u v
  pub are_blocked : (p : ℕ) → Has blocked p ↔ (v : ℕ) × (slice_get list p ≡ Some v) × WaitsOutside waiting list v
