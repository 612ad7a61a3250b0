-- How the graph of what vertices of a list wait for among themselves (Among.antt of dt_waits) is built: edge by edge, from the
-- neighbours of an entry to the place of its vertex. Read next: Among.antt of dt_waits, for the graph that is built.
use Rattle.std.specs.Prelude.{◌≡◌, ◌⊎◌, ◌↔◌, ℕ, Bool, List, IsTrue, slice_get, Some}
use Rattle.dt_lists.specs.Lists.{AnyIn, Has}
use Rattle.dt_class.specs.Graphs.{AdjView, IsEdge}
use Rattle.dt_queue.specs.Queues.{Waiting, neighbours}

-- the edges from the sources into the vertex at a place of the list were added to the graph; and it is reported whether some
-- source is not in the list
pub record HasLinked (sources : ℕ → Type 0) (list : List ℕ) (place : ℕ) (old new : AdjView) (blocked : Bool) : Type 0 where
  pub vertices : new.vertices ≡ old.vertices
  pub edges : (p q : ℕ) → IsEdge new p q ↔ IsEdge old p q ⊎ (q ≡ place) × ((u : ℕ) × (slice_get list p ≡ Some u) × sources u)
  pub is_blocked : IsTrue blocked ↔ (u : ℕ) × sources u × ¬ (Has list u)

-- some neighbour of the entry at the slot is of the vertex
abbrev pub IsSourceOf : List Waiting → ℕ → ℕ → Type 0
IsSourceOf waiting slot u = AnyIn (λ n. n.vertex ≡ u) (neighbours waiting slot)

-- some neighbour of the entries at the slots is of the vertex
abbrev pub IsSourceAt : List Waiting → List ℕ → ℕ → Type 0
IsSourceAt waiting slots u = AnyIn (λ slot. IsSourceOf waiting slot u) slots
