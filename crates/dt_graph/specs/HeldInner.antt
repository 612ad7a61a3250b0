-- What the scheduler with queues holds, as it is kept: the vertices and the queues (`Waits`), with the ids of the vertices and the
-- resolved classes beside. It is seen as the plain lists of Graph.antt of dt_waits. Read next: `NamesInner`, for how an id finds
-- its vertex, and `VerticesInner`, for how vertices are kept.
use Rattle.std.specs.Prelude.{◌≡◌, ◌≤◌, ◌<◌, ◌^◌, ℕ, List, length}
use Rattle.dt_lists.specs.Lists.{AllIn}
use Rattle.dt_access.specs.declared.TxnId.{TxnId}
use Rattle.dt_waits.specs.declared.open.Open.{Open}
use Rattle.dt_graph.specs.declared.waits.Waits.{Waits}
use Rattle.dt_waits.specs.Graph.{GraphView, IsPast, vertex_at}

-- what is held, as plain lists
abbrev pub kept_of : List TxnId → Waits → List Open → GraphView
kept_of ids w classes = record {
  ids = ids;
  vertices = w.vertices.vertices;
  degrees = w.vertices.degrees;
  waiting = w.queues;
  ready = w.vertices.ready;
  stuck = w.vertices.stuck;
  classes = classes;
}

-- each number has a vertex and a degree; what is ready or stuck is a vertex that is kept, and entries wait for such alone; those
-- that were forgotten are past
pub record IsFitted (ids : List TxnId) (w : Waits) (classes : List Open) : Type 0 where
  pub few : length ids < 2 ^ 32
  pub vertices : length w.vertices.vertices ≡ length ids
  pub degrees : length w.vertices.degrees ≡ length ids
  pub ready_within : AllIn (λ v. v < length ids) w.vertices.ready
  pub stuck_within : AllIn (λ v. v < length ids) w.vertices.stuck
  pub first : w.vertices.first ≤ length ids
  pub ready_kept : AllIn (λ v. w.vertices.first ≤ v) w.vertices.ready
  pub stuck_kept : AllIn (λ v. w.vertices.first ≤ v) w.vertices.stuck
  pub queues_kept : AllIn (λ e. w.vertices.first ≤ e.vertex) w.queues
  pub past : (v : ℕ) → v < w.vertices.first → IsPast classes (vertex_at w.vertices.vertices v)
