-- The vertices as they are kept: a record of each, by its number, from the first that is not forgotten on, and the numbers of
-- the ready and of the stuck ones. The record of a vertex that is ready or stuck has its place among those. Contracts see plain
-- lists, with what was forgotten. Read next: `SubsetInner`, for how numbers and places belong together.
use Rattle.std.specs.Prelude.{◌≡◌, ◌≤◌, ◌<◌, ◌+◌, ◌-◌, ◌^◌, ℕ, List, length, map, min, Option, None, Some}
use Rattle.dt_waits.specs.declared.vertex.Vertex.{Vertex}
use Rattle.dt_graph.specs.declared.kept.Kept.{Kept}
use Rattle.dt_graph.specs.declared.kept.Kind.{Kind}
use Rattle.dt_graph.specs.declared.kept.Kind.TheVariants as kind
use Rattle.dt_graph.specs.declared.kept.State.{State}
use Rattle.dt_graph.specs.declared.kept.State.TheVariants.{Neither, Ready, Stuck}
use Rattle.dt_lists.specs.Lists.{AllIn, Has}
use Rattle.dt_waits.specs.Graph.{IsPast, vertex_at}
use Rattle.dt_waits.specs.declared.open.Open.{Open}
use Rattle.dt_graph.specs.SubsetInner.{IsSubset}

-- the vertices and the degrees by their numbers, the number of the first that is kept, the ready and the stuck numbers, in no
-- order, and how many more vertices fit in without taking memory
pub record VerticesView : Type 0 where
  pub vertices : List Vertex
  pub degrees : List ℕ
  pub first : ℕ
  pub ready : List ℕ
  pub stuck : List ℕ
  pub room : ℕ

-- records as contracts see them: the vertices, the degrees and the states by their numbers, the number of the first record
-- that is kept, and how many more fit in without taking memory
pub record RecordsView : Type 0 where
  pub vertices : List Vertex
  pub degrees : List ℕ
  pub states : List State
  pub first : ℕ
  pub room : ℕ

-- the record of the number is kept
abbrev pub IsIn : RecordsView → ℕ → Type 0
IsIn r number = (r.first ≤ number) × (number < length r.vertices)

-- the first that is kept follows those that are gone, and all of them are counted in 32 bits
pub record IsVertexCounted (first : ℕ) (gone kept : List Kept) : Type 0 where
  pub after : first ≡ length gone
  pub few : length gone + length kept < 2 ^ 32

-- the vertices of records
abbrev pub vertices_of : List Kept → List Vertex
vertices_of kept = map (λ k. k.vertex) kept

-- the degrees of records
abbrev pub degrees_of : List Kept → List ℕ
degrees_of kept = map (λ k. k.degree) kept

-- the states of records
abbrev pub states_of : List Kept → List State
states_of kept = map (λ k. k.state) kept

-- the place among those of a kind
abbrev pub place_of_kind : Kind → State → Option ℕ
place_of_kind kind.Ready Neither = None
place_of_kind kind.Ready (Ready place) = Some place
place_of_kind kind.Ready (Stuck place) = None
place_of_kind kind.Stuck Neither = None
place_of_kind kind.Stuck (Ready place) = None
place_of_kind kind.Stuck (Stuck place) = Some place

-- the state at this place among those of a kind
abbrev pub state_of_kind : Kind → ℕ → State
state_of_kind kind.Ready place = Ready place
state_of_kind kind.Stuck place = Stuck place

-- the other kind
abbrev pub other_kind : Kind → Kind
other_kind kind.Ready = kind.Stuck
other_kind kind.Stuck = kind.Ready

-- the places among those of a kind, by the numbers of the vertices
abbrev pub places_of_kind : Kind → RecordsView → List (Option ℕ)
places_of_kind k records = map (place_of_kind k) records.states

-- the vertex of the number is kept
abbrev pub IsVertexKept : VerticesView → ℕ → Type 0
IsVertexKept v number = (v.first ≤ number) × (number < length v.vertices)

-- the vertex of the number is of a transaction that has left
abbrev pub HasPassed : List Open → VerticesView → ℕ → Type 0
HasPassed classes v number = IsPast classes (vertex_at v.vertices number) × ¬ (Has v.ready number) × ¬ (Has v.stuck number)

-- the numbers of a kind are those of which the records say so, there is this much room for them, and their records are kept
pub record AreMembers (k : Kind) (records : RecordsView) (members : List ℕ) (room : ℕ) : Type 0 where
  pub subset : IsSubset members (places_of_kind k records) room
  pub kept : AllIn (λ n. records.first ≤ n) members
  pub sizes : length records.states ≡ length records.vertices

-- and this of both kinds
pub record AreVerticesKept (records : RecordsView) (ready stuck : List ℕ) (ready_room stuck_room : ℕ) : Type 0 where
  pub are_ready : AreMembers kind.Ready records ready ready_room
  pub are_stuck : AreMembers kind.Stuck records stuck stuck_room

-- how many more vertices fit in: as records, and among the ready and the stuck ones, where there are this many
abbrev pub room_of : ℕ → ℕ → ℕ → ℕ → ℕ
room_of length records ready stuck = min records (min ready stuck - length)
