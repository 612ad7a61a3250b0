-- What the scheduler with queues keeps: of each transaction that has a part a vertex, which is a number; of those that are
-- left in the graph the entries that wait, and how many neighbours these have; of those that are complete, which are ready, as
-- they may be executed, and which are stuck; and of each resolved class its vertices, in the order in which they run. That all
-- of it is right at each moment is `KeepsGraph`; that the answers read off it are right is in proofs/KeepsGraph.antt, and of
-- classes in proofs/Classes.antt. Read next: `Steps`, for what the calls make of it.
use Rattle.std.specs.Prelude.{◌≡◌, ◌≤◌, ◌<◌, ◌↔◌, ℕ, Bool, not, List, [], length, map, get_or, slice_get, take, drop, Option, None, Some}
use Rattle.std.specs.List.{filter, list_any}
use Rattle.dt_lists.specs.Lists.{AnyIn, AllIn, Has, EachThen, Distinct, Pairwise}
use Rattle.dt_access.specs.Ids.{same_id}
use Rattle.dt_access.specs.declared.TxnId.{TxnId}
use Rattle.dt_access.specs.declared.Part.{Part}
use Rattle.dt_sched.specs.Views.{View, log_at, IsPresent, IsComplete, IsSooner}
use Rattle.dt_sched.specs.Decide.{IsExecutable}
use Rattle.dt_sched.specs.Sched.{Sched}
use Rattle.dt_queue.specs.Queues.{Waiting}
use Rattle.dt_waits.specs.LeftInGraph.{IsLeft, IsFree, IsInResolved, IsOrderly}
use Rattle.dt_waits.specs.Waits.{id_at, AreUses, degree, slots_of}
use Rattle.dt_waits.specs.declared.vertex.Vertex.{Vertex}
use Rattle.dt_waits.specs.declared.open.Open.{Open}

-- what is kept, as plain lists: the id, the vertex and the degree of each number, the entries that wait, the ready and the
-- stuck numbers, and the classes in the order in which they were resolved
pub record GraphView : Type 0 where
  pub ids : List TxnId
  pub vertices : List Vertex
  pub degrees : List ℕ
  pub waiting : List Waiting
  pub ready : List ℕ
  pub stuck : List ℕ
  pub classes : List Open

-- the vertex of a number; past the last one an arbitrary vertex
abbrev pub vertex_at : List Vertex → ℕ → Vertex
vertex_at vertices v = get_or vertices v (record { rank = 0; missing = 0; class = None; slots = [] })

-- whether the log has a part of t
abbrev pub has_part : List Part → TxnId → Bool
has_part log t = list_any (λ p. same_id p.id t) log

-- how many of the homes have no part of t yet
abbrev pub lacking : View → TxnId → List ℕ → ℕ
lacking view t homes = length (filter (λ home. not (has_part (log_at view home) t)) homes)

-- the place of the resolved class that t is in, if it is in one
abbrev pub IsPlaceOfClass : List (List TxnId) → TxnId → Option ℕ → Type 0
IsPlaceOfClass resolved t None = ¬ (IsInResolved resolved t)
IsPlaceOfClass resolved t (Some place) = (ids : List TxnId) × (slice_get resolved place ≡ Some ids) × Has ids t

-- what is kept of t beside its entries is right
pub record IsVertexOf (view : View) (resolved : List (List TxnId)) (t : TxnId) (x : Vertex) : Type 0 where
  -- it has the rank of each part of t, and the number of those homes that the part names which have no part of t yet
  pub rank : (home : ℕ) (p : Part) → Has (log_at view home) p → p.id ≡ t → x.rank ≡ p.rank
  pub missing : (home : ℕ) (p : Part) → Has (log_at view home) p → p.id ≡ t → x.missing ≡ lacking view t p.homes
  pub class : IsPlaceOfClass resolved t x.class

-- what is kept of a resolved class is right: its members, the soonest first, of which a front is done
pub record IsOpened (view : View) (done ids class : List TxnId) (kept : Open) : Type 0 where
  pub within : AllIn (λ v. v < length ids) kept.members
  pub ordered : EachThen (IsSooner view) (map (id_at ids) kept.members)
  pub members : (t : TxnId) → Has (map (id_at ids) kept.members) t ↔ Has class t
  pub next_in : kept.next ≤ length kept.members
  pub front_done : AllIn (Has done) (take kept.next (map (id_at ids) kept.members))
  pub rest_waits : AllIn (λ t. ¬ (Has done t)) (drop kept.next (map (id_at ids) kept.members))

-- t is stuck: it is left and complete, in no resolved class, and something else that is left reaches it
pub record IsStuck (view : View) (resolved : List (List TxnId)) (done : List TxnId) (t : TxnId) : Type 0 where
  pub left : IsLeft view done t
  pub complete : IsComplete view t
  pub apart : ¬ (IsInResolved resolved t)
  pub waits : ¬ (IsFree view done t)

-- all that is kept is right, for a view, resolved classes and done ids
pub record KeepsGraph (view : View) (resolved : List (List TxnId)) (done : List TxnId) (g : GraphView) : Type 0 where
  -- the ids are those that have a part, each once
  pub once : Distinct g.ids
  pub present : (t : TxnId) → Has g.ids t ↔ IsPresent view t
  -- each has a vertex and a degree
  pub vertices : length g.vertices ≡ length g.ids
  pub degrees : length g.degrees ≡ length g.ids
  pub kept : (v : ℕ) → v < length g.ids → IsVertexOf view resolved (id_at g.ids v) (vertex_at g.vertices v)
  -- the entries are the uses of those that are left, whose slots and degrees are kept
  pub uses : AreUses view done g.ids g.waiting
  pub slots : (v : ℕ) → v < length g.ids → IsLeft view done (id_at g.ids v) → (vertex_at g.vertices v).slots ≡ slots_of g.waiting v
  pub counts : (v : ℕ) → v < length g.ids → IsLeft view done (id_at g.ids v) → get_or g.degrees v 0 ≡ degree g.waiting v
  -- the ready ones are those that may be executed
  pub ready : (v : ℕ) → Has g.ready v ↔ (v < length g.ids) × IsExecutable view resolved done (id_at g.ids v)
  pub stuck : (v : ℕ) → Has g.stuck v ↔ (v < length g.ids) × IsStuck view resolved done (id_at g.ids v)
  -- each resolved class is kept
  pub classes : Pairwise (IsOpened view done g.ids) resolved g.classes

-- nothing is kept
abbrev pub nothing_kept : GraphView
nothing_kept = record { ids = []; vertices = []; degrees = []; waiting = []; ready = []; stuck = []; classes = [] }

-- what is kept is the graph of some view
pub record IsSomeGraph (g : GraphView) : Type 0 where
  pub view : View
  pub resolved : List (List TxnId)
  pub done : List TxnId
  pub orderly : IsOrderly view resolved done
  pub graph : KeepsGraph view resolved done g

-- each of the ids is that of a stuck vertex
abbrev pub AllAreStuck : GraphView → List TxnId → Type 0
AllAreStuck g ids = AllIn (λ t. AnyIn (λ v. id_at g.ids v ≡ t) g.stuck) ids

-- the vertices are those of the ids, in their order, and all of them are stuck
pub record AreVerticesOf (g : GraphView) (ids : List TxnId) (vertices : List ℕ) : Type 0 where
  pub named : map (id_at g.ids) vertices ≡ ids
  pub stuck : AllIn (Has g.stuck) vertices

-- what is kept is the graph of what was inserted, resolved and done, and each call was allowed
pub record IsKeeping (s : Sched) (g : GraphView) : Type 0 where
  pub orderly : IsOrderly s.logs s.resolved s.done
  pub graph : KeepsGraph s.logs s.resolved s.done g

-- the resolved class at the place is done, if there is one
abbrev pub IsClassDone : List Open → Option ℕ → Type 0
IsClassDone classes None = Unit {0}
IsClassDone classes (Some place) = (kept : Open) × (slice_get classes place ≡ Some kept) × (length kept.members ≤ kept.next)

-- the vertex is of a transaction that is complete and in no class that isn't done; if it is neither ready nor stuck, it has left
pub record IsPast (classes : List Open) (x : Vertex) : Type 0 where
  pub complete : x.missing ≡ 0
  pub class : IsClassDone classes x.class
