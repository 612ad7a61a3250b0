-- What the small steps within a call do: entries are pushed for a vertex, degrees are raised and lowered, vertices are put to
-- the ready or the stuck ones, and the members of a class are done one after the other. What a whole call makes of what is
-- kept stands in Steps.antt of dt_waits. Read next: that file.
use Rattle.std.specs.Prelude.{◌≡◌, ◌≢◌, ◌<◌, ◌⊎◌, ◌↔◌, ◌+◌, ◌==◌, ℕ, suc, not, if◌then◌else◌, List, ◌++◌, count_by, length, map, get_or, slice_get, Some}
use Rattle.dt_lists.specs.Lists.{AnyIn, AllIn, Has, Distinct}
use Rattle.dt_access.specs.Ids.{AreAscending}
use Rattle.dt_access.specs.Clash.{Bytes}
use Rattle.dt_access.specs.declared.access.Mode.{Mode}
use Rattle.dt_access.specs.declared.TxnId.{TxnId}
use Rattle.dt_queue.specs.Queues.{Waiting, HasDistinctSlots, followers}
use Rattle.dt_waits.specs.Waits.{id_at, degree}
use Rattle.dt_waits.specs.Graph.{GraphView, vertex_at}
use Rattle.dt_waits.specs.Steps.{Leaves, MayLeave, with_one_done}
use Rattle.dt_waits.specs.declared.vertex.Vertex.{Vertex}
use Rattle.dt_waits.specs.declared.open.Open.{Open}

-- entries were pushed for a vertex, with their slots at the back of its list
pub record Pushes (vertex : ℕ) (old new : List Waiting) (slots now : List ℕ) : Type 0 where
  pub more : List Waiting
  pub waiting : new ≡ old ++ more
  pub distinct : HasDistinctSlots new
  pub at_slots : now ≡ slots ++ map (λ w. w.slot) more
  pub of_vertex : AllIn (λ w. w.vertex ≡ vertex) more

-- the uses were pushed for a vertex at a home, one after the other, and its new degree was given
pub record Enters (home vertex : ℕ) (uses : List (Bytes × Mode)) (old new : List Waiting) (slots now : List ℕ) (risen : ℕ) : Type 0 where
  pub pushed : Pushes vertex old new slots now
  pub used : map (λ w. (w.key, w.mode)) pushed.more ≡ uses
  pub at_home : AllIn (λ w. w.home ≡ home) pushed.more
  pub counted : risen ≡ degree new vertex

-- a degree, raised by the neighbours that are other vertices
abbrev pub raised : ℕ → List ℕ → ℕ → ℕ
raised before neighbours vertex = before + count_by (λ n. not (n == vertex)) neighbours

-- of the vertices that were to be lowered by these counts, each was lowered by its count
abbrev pub AreLowered : (ℕ → ℕ) → List ℕ → List ℕ → Type 0
AreLowered count old new = (length new ≡ length old) × ((v : ℕ) → v < length old → get_or old v 0 ≡ get_or new v 0 + count v)

-- what a follower of the vertex x takes from the degree of v, where it follows an entry of the vertex u
abbrev pub falls : ℕ → ℕ → ℕ → ℕ
falls u x v = if u == v then 0 else (if x == v then 1 else 0)

-- of the vertices that P holds of, those that were stuck and are of degree 0 are ready now, and stuck no more
pub record Wakes (P : ℕ → Type 0) (degrees stuck ready stuck_now ready_now : List ℕ) : Type 0 where
  pub woken : (v : ℕ) → Has ready_now v ↔ Has ready v ⊎ Has stuck v × (get_or degrees v 0 ≡ 0) × P v
  pub still_stuck : (v : ℕ) → Has stuck_now v ↔ Has stuck v × ¬ ((get_or degrees v 0 ≡ 0) × P v)

-- some follower of the entry at the slot is of the vertex
abbrev pub IsFollowedAt : List Waiting → ℕ → ℕ → Type 0
IsFollowedAt waiting slot v = AnyIn (λ w. w.vertex ≡ v) (followers waiting slot)

-- a vertex is put to the ready ones, or to the stuck ones, if it is complete
pub record Sorts (v : ℕ) (vertices : List Vertex) (degrees ready stuck ready_now stuck_now : List ℕ) : Type 0 where
  pub readied : (u : ℕ) → Has ready_now u ↔ Has ready u ⊎ (u ≡ v) × ((vertex_at vertices v).missing ≡ 0) × (get_or degrees v 0 ≡ 0)
  pub stuck_more : (u : ℕ) → Has stuck_now u ↔ Has stuck u ⊎ (u ≡ v) × ((vertex_at vertices v).missing ≡ 0) × (get_or degrees v 0 ≢ 0)

-- the ids are those of the vertices at the places of a list, in ascending order
pub record AreIdsAt (ids : List TxnId) (list places : List ℕ) (answer : List TxnId) : Type 0 where
  pub ascending : Distinct (map (λ p. id_at ids (get_or list p 0)) places) → AreAscending answer
  pub members : (t : TxnId) → Has answer t ↔ AnyIn (λ p. id_at ids (get_or list p 0) ≡ t) places

-- the next member of the resolved class at a place may be done
pub record MayFinishIn (place : ℕ) (g : GraphView) : Type 0 where
  pub kept : Open
  pub at_place : slice_get g.classes place ≡ Some kept
  pub waits : kept.next < length kept.members
  pub leaves : MayLeave g kept.members
  pub not_stuck : AllIn (λ u. ¬ (Has g.stuck u)) kept.members
  pub of_class : AllIn (λ u. (vertex_at g.vertices u).class ≡ Some place) kept.members

-- it is done: another member is ready now, or the class leaves
pub data FinishesIn (place : ℕ) (old new : GraphView) : Type 0 where
  one : (next : ℕ) (kept : Open) → slice_get old.classes place ≡ Some kept → slice_get kept.members (suc kept.next) ≡ Some next
      → ((u : ℕ) → Has new.ready u ↔ Has old.ready u ⊎ (u ≡ next)) → new ≡ record old { ready = new.ready; classes = with_one_done old.classes place kept } → FinishesIn place old new
  all : (kept : Open) → slice_get old.classes place ≡ Some kept → suc kept.next ≡ length kept.members → Leaves kept.members (record old { classes = with_one_done old.classes place kept }) new
      → FinishesIn place old new
