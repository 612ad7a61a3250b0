-- What a search has found, for the private functions of this crate: vertices in the order in which they were found, each
-- once, with a mark for each vertex of the graph. The search takes what it found, in that order, and adds at the back
-- what one link more leads to, until it has taken all of it; then nothing is left that links lead to. Read Graphs.antt
-- for what the public calls promise.
use Rattle.std.specs.Prelude.{◌≡◌, ℕ, ◌<◌, ◌^◌, ◌⊎◌, ◌↔◌, Bool, true, false, List, length, get_or, Option, Some, None}
use Rattle.dt_lists.specs.Chain.{Chain}
use Rattle.dt_lists.specs.Lists.{AnyIn, Distinct, EachThen, Has, IsFront}
use Rattle.dt_class.specs.Graphs.{AdjView}
use Rattle.dt_class.specs.LinksInner.{IsStep, LeadsBy}
use Rattle.dt_class.specs.declared.link.Link.{Link}
use Rattle.dt_class.specs.declared.link.Way.{Way}

-- what was found: a mark for each vertex, and the marked ones in the order in which they were found
pub record FoundView : Type 0 where
  pub marks : List Bool
  pub order : List ℕ

-- a vertex has its mark, so it is found
abbrev pub IsMarked : List Bool → ℕ → Type 0
IsMarked marks v = get_or marks v false ≡ true

-- the order has just the vertices that have a mark, each once; and vertices are counted by 32 bits
pub record IsFoundOf (marks : List Bool) (order : List ℕ) : Type 0 where
  pub few : length marks < 2 ^ 32
  pub distinct : Distinct order
  pub members : (v : ℕ) → IsMarked marks v ↔ Has order v

-- after adding a vertex: if it had been found, nothing more is found; else it stands at the back of the order
pub record AddsVertex (old : FoundView) (vertex : ℕ) (new : FoundView) : Type 0 where
  pub vertices : length new.marks ≡ length old.marks
  pub front : IsFront old.order new.order
  pub members : (v : ℕ) → Has new.order v ↔ (Has old.order v ⊎ (v ≡ vertex))

-- after one step from u: each vertex that some link leads to from u is found too, behind those that were found before
pub record GainsSteps (way : Way) (links : List Link) (u : ℕ) (old new : FoundView) : Type 0 where
  pub vertices : length new.marks ≡ length old.marks
  pub front : IsFront old.order new.order
  pub members : (v : ℕ) → Has new.order v ↔ (Has old.order v ⊎ IsStep way links u v)

-- all that links lead to from u in one step is found
abbrev pub IsFollowedIn : Way → List Link → List ℕ → ℕ → Type 0
IsFollowedIn way links order u = (v : ℕ) → IsStep way links u v → Has order v

-- nothing is left to follow: all that links lead to in one step from what is found is found
abbrev pub IsClosedUnder : Way → List Link → List ℕ → Type 0
IsClosedUnder way links order = (u : ℕ) → Has order u → IsFollowedIn way links order u

-- after a search that went on to its end: behind what was found before stands only what chains of links lead to from
-- there, and nothing is left to follow
pub record Spreads (way : Way) (links : List Link) (old new : FoundView) : Type 0 where
  pub vertices : length new.marks ≡ length old.marks
  pub once : IsFoundOf new.marks new.order
  pub front : IsFront old.order new.order
  pub sound : (v : ℕ) → Has new.order v → AnyIn (λ u. Chain (IsStep way links) u v) old.order
  pub closed : IsClosedUnder way links new.order

-- a search of n vertices that began with these has found just those to which chains of links lead from some of them
pub record IsReach (way : Way) (links : List Link) (count : ℕ) (starts : List ℕ) (found : FoundView) : Type 0 where
  pub vertices : length found.marks ≡ count
  pub once : IsFoundOf found.marks found.order
  pub exact : (v : ℕ) → Has found.order v ↔ AnyIn (λ u. Chain (IsStep way links) u v) starts

-- after a search that went on from v: what was found before, and all that chains of links lead to from v
pub record GoesOn (way : Way) (links : List Link) (old : FoundView) (v : ℕ) (new : FoundView) : Type 0 where
  pub vertices : length new.marks ≡ length old.marks
  pub once : IsFoundOf new.marks new.order
  pub closed : IsClosedUnder way links new.order
  pub members : (t : ℕ) → Has new.order t ↔ (Has old.order t ⊎ Chain (IsStep way links) v t)

-- the answer to a visit of v: false where v had been found, and then nothing changed; true where it had not, and then the
-- search went on from v
abbrev pub Visits : Way → List Link → FoundView → ℕ → Bool → FoundView → Type 0
Visits way links old v false new = Has old.order v × (new ≡ old)
Visits way links old v true new = ¬ (Has old.order v) × GoesOn way links old v new

-- where the last of several searches began. Some vertices are found, and nothing is left to follow from them; then a
-- search goes on from each vertex in turn that is not found yet. None: all vertices had been found before. Some f: f had
-- not been found, and each vertex that leads to f is led to from f, so nothing outside of the class of f leads to f
abbrev pub IsLastStart : Way → List Link → ℕ → List ℕ → Option ℕ → Type 0
IsLastStart way links count found None = (v : ℕ) → v < count → Has found v
IsLastStart way links count found (Some f) =
    (f < count) × ¬ (Has found f) × ((v : ℕ) → v < count → Chain (IsStep way links) v f → Chain (IsStep way links) f v)

-- a search has marked just the vertices of the graph that u leads to for this way
pub record IsReachOf (graph : AdjView) (way : Way) (u : ℕ) (found : FoundView) : Type 0 where
  pub vertices : length found.marks ≡ graph.vertices
  pub exact : (v : ℕ) → IsMarked found.marks v ↔ LeadsBy way graph u v

-- the list has just the vertices that have a mark, in ascending order
pub record AreMarked (marks : List Bool) (list : List ℕ) : Type 0 where
  pub ascending : EachThen (λ u v. u < v) list
  pub members : (v : ℕ) → Has list v ↔ IsMarked marks v
