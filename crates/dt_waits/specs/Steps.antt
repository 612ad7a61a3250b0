-- What the calls make of what is kept: a part is inserted, a class is resolved, an id is done. Each is stated in terms of what
-- was kept before (Graph.antt), without mention of the view; that it stays the graph of the view is in proofs/InsertStep.antt,
-- proofs/ResolveStep.antt and proofs/FinishStep.antt. Read next: SmallStepsInner.antt of dt_graph, for the steps within a call.
use Rattle.std.specs.Prelude.{◌≡◌, ◌≢◌, ◌≤◌, ◌<◌, ◌⊎◌, ◌↔◌, ◌+◌, ℕ, suc, not, List, [], ◌∷◌, ◌++◌, length, map, get_or, set, slice_get, None, Some}
use Rattle.std.specs.List.{filter}
use Rattle.dt_lists.specs.Lists.{AnyIn, AllIn, Has, EachThen, Distinct}
use Rattle.dt_access.specs.Ids.{Before}
use Rattle.dt_access.specs.Clash.{Bytes}
use Rattle.dt_access.specs.declared.access.Mode.{Mode}
use Rattle.dt_access.specs.declared.TxnId.{TxnId}
use Rattle.dt_access.specs.declared.Part.{Part}
use Rattle.dt_queue.specs.Queues.{Waiting, HasDistinctSlots}
use Rattle.dt_waits.specs.Waits.{id_at, degree, is_leaving, lowered_by, slots_of, IsFollowed}
use Rattle.dt_waits.specs.Graph.{GraphView, vertex_at}
use Rattle.dt_waits.specs.declared.vertex.Vertex.{Vertex}
use Rattle.dt_waits.specs.declared.open.Open.{Open}

-- the entries are those of a vertex for the uses of a part
pub record AreEntriesOf (part : Part) (vertex : ℕ) (entries : List Waiting) : Type 0 where
  pub of_part : AllIn (λ w. (w.home ≡ part.home) × (w.vertex ≡ vertex) × Has part.keys (w.key, w.mode)) entries
  pub all_uses : (way : Bytes × Mode) → Has part.keys way → AnyIn (λ w. (w.key, w.mode) ≡ way) entries

-- the vertex of a transaction that has no part yet
abbrev pub fresh_vertex : Part → Vertex
fresh_vertex part = record { rank = part.rank; missing = length part.homes; class = None; slots = [] }

-- x is the vertex v before the part is inserted: that which is kept, or a fresh one
abbrev pub IsVertexBefore : Part → GraphView → ℕ → Vertex → Type 0
IsVertexBefore part g v x = (v < length g.ids) × (x ≡ vertex_at g.vertices v) ⊎ (v ≡ length g.ids) × (¬ (Has g.ids part.id)) × (x ≡ fresh_vertex part)

-- y is the vertex x with one part more, whose entries are these
pub record Grows (x : Vertex) (more : List Waiting) (y : Vertex) : Type 0 where
  pub rank : y.rank ≡ x.rank
  pub missing : suc y.missing ≡ x.missing
  pub class : y.class ≡ x.class
  pub slots : y.slots ≡ x.slots ++ map (λ w. w.slot) more

-- the part was inserted: v is the vertex of its transaction, and its entries are more
pub record Inserts (part : Part) (v : ℕ) (more : List Waiting) (old new : GraphView) : Type 0 where
  pub within : v < length new.ids
  pub named : id_at new.ids v ≡ part.id
  pub once : Distinct new.ids
  pub ids : (t : TxnId) → Has new.ids t ↔ Has old.ids t ⊎ (t ≡ part.id)
  pub vertices : length new.vertices ≡ length new.ids
  pub degrees : length new.degrees ≡ length new.ids
  -- all other vertices are kept as they were
  pub kept : (u : ℕ) → u < length old.ids → (u < length new.ids) × (id_at new.ids u ≡ id_at old.ids u)
  pub others : (u : ℕ) → u < length new.ids → u ≢ v → (u < length old.ids) × (vertex_at new.vertices u ≡ vertex_at old.vertices u) × (get_or new.degrees u 0 ≡ get_or old.degrees u 0)
  -- the entries are pushed
  pub waiting : new.waiting ≡ old.waiting ++ more
  pub distinct : HasDistinctSlots new.waiting
  pub entries : AreEntriesOf part v more
  -- the vertex grows
  pub before : Vertex
  pub is_before : IsVertexBefore part old v before
  pub grows : Grows before more (vertex_at new.vertices v)
  pub counted : get_or new.degrees v 0 ≡ degree new.waiting v
  -- it is ready or stuck where it is complete now
  pub ready : (u : ℕ) → Has new.ready u ↔ Has old.ready u ⊎ (u ≡ v) × ((vertex_at new.vertices v).missing ≡ 0) × (get_or new.degrees v 0 ≡ 0)
  pub stuck : (u : ℕ) → Has new.stuck u ↔ Has old.stuck u ⊎ (u ≡ v) × ((vertex_at new.vertices v).missing ≡ 0) × (get_or new.degrees v 0 ≢ 0)
  pub classes : new.classes ≡ old.classes

-- the vertices left together: of what stays the degrees are lowered, and what came to degree 0 is no more stuck but ready; the
-- entries of those that left are taken out, and what is kept beside is as it was
pub record Leaves (leaving : List ℕ) (old new : GraphView) : Type 0 where
  pub ids : new.ids ≡ old.ids
  pub vertices : new.vertices ≡ old.vertices
  pub size : length new.degrees ≡ length old.degrees
  pub degrees : (v : ℕ) → v < length old.degrees → get_or old.degrees v 0 ≡ get_or new.degrees v 0 + lowered_by old.waiting leaving v
  pub waiting : new.waiting ≡ filter (λ w. not (is_leaving leaving w.vertex)) old.waiting
  pub ready : (v : ℕ) → Has new.ready v ↔ Has old.ready v ⊎ Has old.stuck v × (get_or new.degrees v 0 ≡ 0) × IsFollowed old.waiting leaving v
  pub stuck : (v : ℕ) → Has new.stuck v ↔ Has old.stuck v × ¬ ((get_or new.degrees v 0 ≡ 0) × IsFollowed old.waiting leaving v)
  pub classes : new.classes ≡ old.classes

-- the graph without a ready vertex
abbrev pub IsReadyWithout : List ℕ → ℕ → List ℕ → Type 0
IsReadyWithout old v new = (u : ℕ) → Has new u ↔ Has old u × (u ≢ v)

-- an id is done that is in no resolved class: its vertex v leaves
pub record FinishesAlone (v : ℕ) (old new : GraphView) : Type 0 where
  pub ready : List ℕ
  pub without : IsReadyWithout old.ready v ready
  pub leaves : Leaves (v ∷ []) (record old { ready = ready }) new

-- the resolved class with one member more that is done
abbrev pub one_done : Open → Open
one_done kept = record kept { next = suc kept.next }

-- the classes after a member of the one at a place was done
abbrev pub with_one_done : List Open → ℕ → Open → List Open
with_one_done classes place kept = set classes place (one_done kept)

-- an id is done that is in the resolved class at a place, and another member runs after it: that is ready
pub record FinishesBefore (v place : ℕ) (kept : Open) (next : ℕ) (old new : GraphView) : Type 0 where
  pub ready : (u : ℕ) → Has new.ready u ↔ Has old.ready u × (u ≢ v) ⊎ (u ≡ next)
  pub rest : new ≡ record old { ready = new.ready; classes = with_one_done old.classes place kept }

-- an id is done that is the last of the resolved class at a place: the class leaves
pub record FinishesLast (v place : ℕ) (kept : Open) (old new : GraphView) : Type 0 where
  pub ready : List ℕ
  pub without : IsReadyWithout old.ready v ready
  pub leaves : Leaves kept.members (record old { ready = ready; classes = with_one_done old.classes place kept }) new

-- y is the vertex x, in the resolved class at a place
pub record IsPut (place : ℕ) (x y : Vertex) : Type 0 where
  pub rank : y.rank ≡ x.rank
  pub missing : y.missing ≡ x.missing
  pub class : y.class ≡ Some place
  pub slots : y.slots ≡ x.slots

-- a class was resolved, as the one at a place: its members, the soonest first, are in it now and stuck no more, and the first
-- of them is ready
pub record Resolves (members : List ℕ) (place : ℕ) (old new : GraphView) : Type 0 where
  pub ids : new.ids ≡ old.ids
  pub size : length new.vertices ≡ length old.vertices
  pub inside : (v : ℕ) → Has members v → IsPut place (vertex_at old.vertices v) (vertex_at new.vertices v)
  pub outside : (v : ℕ) → ¬ (Has members v) → vertex_at new.vertices v ≡ vertex_at old.vertices v
  pub degrees : new.degrees ≡ old.degrees
  pub waiting : new.waiting ≡ old.waiting
  pub ready : (v : ℕ) → Has new.ready v ↔ Has old.ready v ⊎ (slice_get members 0 ≡ Some v)
  pub stuck : (v : ℕ) → Has new.stuck v ↔ Has old.stuck v × ¬ (Has members v)
  pub classes : new.classes ≡ old.classes ++ record { members = members; next = 0 } ∷ []

-- the vertices are there, and their slots are those of their entries
abbrev pub HaveSlots : List Waiting → List Vertex → List ℕ → Type 0
HaveSlots waiting vertices leaving = AllIn (λ u. (u < length vertices) × ((vertex_at vertices u).slots ≡ slots_of waiting u)) leaving

-- each entry is of a vertex below the bound
abbrev pub AreEntriesBelow : ℕ → List Waiting → Type 0
AreEntriesBelow bound waiting = AllIn (λ w. w.vertex < bound) waiting

-- the part was inserted, for some vertex and with some entries
abbrev pub InsertsPart : Part → GraphView → GraphView → Type 0
InsertsPart part old new = (v : ℕ) × (more : List Waiting) × Inserts part v more old new

-- u runs before v in a class: it has the lower rank, or the same rank and the smaller id
abbrev pub RunsBefore : GraphView → ℕ → ℕ → Type 0
RunsBefore g u v = ((vertex_at g.vertices u).rank < (vertex_at g.vertices v).rank) ⊎ ((vertex_at g.vertices u).rank ≡ (vertex_at g.vertices v).rank) × Before (id_at g.ids u) (id_at g.ids v)

-- the members are the vertices of the ids, the soonest first: by their ranks, and then by their ids
pub record RunInOrder (g : GraphView) (ids : List TxnId) (members : List ℕ) : Type 0 where
  pub within : AllIn (λ v. v < length g.ids) members
  pub names : (t : TxnId) → Has (map (id_at g.ids) members) t ↔ Has ids t
  pub ordered : EachThen (RunsBefore g) members

-- a class of these ids was resolved
abbrev pub ResolvesClass : List TxnId → GraphView → GraphView → Type 0
ResolvesClass ids old new = (members : List ℕ) × RunInOrder old ids members × Resolves members (length old.classes) old new

-- an id is done: its vertex leaves, or another member of its class is ready now, or its class leaves
pub data FinishesId (id : TxnId) (old new : GraphView) : Type 0 where
  alone : (v : ℕ) → slice_get old.ids v ≡ Some id → (vertex_at old.vertices v).class ≡ None → FinishesAlone v old new → FinishesId id old new
  before : (v place next : ℕ) (kept : Open) → slice_get old.ids v ≡ Some id → (vertex_at old.vertices v).class ≡ Some place → slice_get old.classes place ≡ Some kept
      → slice_get kept.members (suc kept.next) ≡ Some next → FinishesBefore v place kept next old new → FinishesId id old new
  last : (v place : ℕ) (kept : Open) → slice_get old.ids v ≡ Some id → (vertex_at old.vertices v).class ≡ Some place → slice_get old.classes place ≡ Some kept
      → suc kept.next ≡ length kept.members → FinishesLast v place kept old new → FinishesId id old new

-- the vertices may leave together: their slots are kept, and no degree is less than what is taken from it
pub record MayLeave (g : GraphView) (leaving : List ℕ) : Type 0 where
  pub once : Distinct leaving
  pub within : AllIn (λ v. v < length g.ids) leaving
  pub distinct : HasDistinctSlots g.waiting
  pub below : AreEntriesBelow (length g.ids) g.waiting
  pub slots : HaveSlots g.waiting g.vertices leaving
  pub enough : (v : ℕ) → v < length g.degrees → lowered_by g.waiting leaving v ≤ get_or g.degrees v 0
