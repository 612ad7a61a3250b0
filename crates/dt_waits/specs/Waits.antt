-- How the waiting entries of the queues stand to a view: each use of a row by a part of a left transaction waits, at the home
-- of the part, and the entries of a home stand in the order of its log. The vertex of an entry is a number; a list of ids says
-- of which transaction. What waits for what by the queues alone is `HoldsUp`; that chains of it are the reach of the view is
-- in proofs/ChainsOfWaits.antt. Read next: `Graph`, for what is kept of it.
use Rattle.std.specs.Prelude.{◌≡◌, ◌≢◌, ◌<◌, ℕ, Bool, ◌==◌, not, if◌then◌else◌, List, length, map, get_or, sum_by}
use Rattle.std.specs.List.{filter, list_any}
use Rattle.dt_lists.specs.Lists.{AnyIn, AllIn, EachThen, Has}
use Rattle.dt_access.specs.Ids.{StandsBefore}
use Rattle.dt_access.specs.Clash.{Bytes}
use Rattle.dt_access.specs.declared.access.Mode.{Mode}
use Rattle.dt_access.specs.declared.TxnId.{TxnId}
use Rattle.dt_access.specs.declared.Part.{Part}
use Rattle.dt_sched.specs.Views.{View, log_at, ids_of}
use Rattle.dt_waits.specs.LeftInGraph.{IsLeft}
use Rattle.dt_queue.specs.Queues.{Waiting, HasDistinctSlots, followers, neighbours}

-- the id of a vertex; past the last one an arbitrary id
abbrev pub id_at : List TxnId → ℕ → TxnId
id_at ids vertex = get_or ids vertex (record { seq = 0; region = 0 })

-- the part has such a use, and is of the transaction of the entry
abbrev pub IsUseOf : List TxnId → Waiting → Part → Type 0
IsUseOf ids w p = (p.id ≡ id_at ids w.vertex) × Has p.keys (w.key, w.mode)

-- the entry is of this home, this transaction and this use
abbrev pub WaitsWith : List TxnId → ℕ → TxnId → Bytes × Mode → Waiting → Type 0
WaitsWith ids home t way w = (w.home ≡ home) × (id_at ids w.vertex ≡ t) × ((w.key, w.mode) ≡ way)

-- the entry w isn't of a part that stands before the part of v in the log of their home
abbrev pub FollowsLog : View → List TxnId → Waiting → Waiting → Type 0
FollowsLog view ids v w = v.home ≡ w.home → ¬ (StandsBefore (ids_of (log_at view v.home)) (id_at ids w.vertex) (id_at ids v.vertex))

-- the entries that wait are just the uses of the left transactions, in the order of the logs
pub record AreUses (view : View) (done : List TxnId) (ids : List TxnId) (waiting : List Waiting) : Type 0 where
  pub distinct : HasDistinctSlots waiting
  pub vertices : AllIn (λ w. w.vertex < length ids) waiting
  pub of_parts : AllIn (λ w. AnyIn (IsUseOf ids w) (log_at view w.home)) waiting
  pub of_left : AllIn (λ w. IsLeft view done (id_at ids w.vertex)) waiting
  pub all_wait : (home : ℕ) (p : Part) (way : Bytes × Mode) → Has (log_at view home) p → IsLeft view done p.id → Has p.keys way → AnyIn (WaitsWith ids home p.id way) waiting
  pub in_order : EachThen (FollowsLog view ids) waiting

-- by the queues t waits for u: an entry of u is a neighbour of an entry of t, and they differ
abbrev pub HoldsUp : List TxnId → List Waiting → TxnId → TxnId → Type 0
HoldsUp ids waiting u t =
    (u ≢ t) × AnyIn (λ w. (id_at ids w.vertex ≡ t) × AnyIn (λ v. id_at ids v.vertex ≡ u) (neighbours waiting w.slot)) waiting

-- those of the entries that are of other vertices
abbrev pub others : ℕ → List Waiting → List Waiting
others vertex entries = filter (λ w. not (w.vertex == vertex)) entries

-- the degree of a vertex: how many entries of other vertices its entries have as neighbours, in all
abbrev pub degree : List Waiting → ℕ → ℕ
degree waiting vertex = sum_by (λ w. if w.vertex == vertex then length (others vertex (neighbours waiting w.slot)) else 0) waiting

-- whether the entry is of the vertex
abbrev pub is_of : ℕ → Waiting → Bool
is_of vertex w = w.vertex == vertex

-- the slots of the entries of a vertex, in their order
abbrev pub slots_of : List Waiting → ℕ → List ℕ
slots_of waiting vertex = map (λ w. w.slot) (filter (is_of vertex) waiting)

-- what the leaving of the entry at a slot, which is of the vertex u, takes from the degree of v: its followers that are of v
abbrev pub lowered : List Waiting → ℕ → ℕ → ℕ → ℕ
lowered waiting slot u v = if u == v then 0 else length (filter (is_of v) (followers waiting slot))

-- what the leaving of vertices takes from the degree of v, in all
abbrev pub lowered_by : List Waiting → List ℕ → ℕ → ℕ
lowered_by waiting leaving v = sum_by (λ u. sum_by (λ slot. lowered waiting slot u v) (slots_of waiting u)) leaving

-- whether the vertex is one of these, or the slot one of these slots
abbrev pub is_leaving : List ℕ → ℕ → Bool
is_leaving leaving vertex = list_any (λ u. u == vertex) leaving

-- some entry of v follows some entry of the vertices
abbrev pub IsFollowed : List Waiting → List ℕ → ℕ → Type 0
IsFollowed waiting leaving v = AnyIn (λ u. AnyIn (λ slot. AnyIn (λ w. w.vertex ≡ v) (followers waiting slot)) (slots_of waiting u)) leaving
