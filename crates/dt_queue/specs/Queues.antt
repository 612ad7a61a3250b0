-- Queues of entries that wait for rows. An entry waits at a home for the use of a key, in a mode; the vertex that wants it
-- stands beside. The entries of one home and one granule are a queue. Here all queues together are one list of entries, in the
-- order in which they were pushed: entries that clash are of one queue, so nothing depends on how two queues lie among each
-- other. An entry has to wait for those before it that clash with it; it is enough that it waits for the nearest of them
-- (`neighbours`), since these wait for the others. Read next: Waits.antt of dt_waits, for what neighbours mean in a region's
-- view; or `KeptInner`, for how queues are kept.
use Rattle.std.specs.Prelude.{◌≡◌, ◌≢◌, ℕ, Bool, ◌&&◌, ◌==◌, not, if◌then◌else◌, List, [], ◌∷◌}
use Rattle.std.specs.List.{filter, list_any}
use Rattle.dt_lists.specs.Lists.{AnyIn, EachThen}
use Rattle.dt_access.specs.Clash.{Bytes, uses_clash}
use Rattle.dt_access.specs.declared.access.Mode.{Mode}
use Rattle.dt_access.specs.declared.access.Mode.TheVariants.{Read}
use Rattle.dt_queue.specs.declared.follower.Follower.{Follower}

-- an entry that waits: its slot, by which it is named while it waits; the home and the key for which it waits, and how it is
-- to use the key; and the vertex that wants it
pub record Waiting : Type 0 where
  pub slot : ℕ
  pub home : ℕ
  pub key : Bytes
  pub mode : Mode
  pub vertex : ℕ

-- whether the entry is at this slot
abbrev pub is_at : ℕ → Waiting → Bool
is_at slot w = w.slot == slot

-- an entry waits at this slot
abbrev pub IsQueued : List Waiting → ℕ → Type 0
IsQueued waiting slot = AnyIn (λ w. w.slot ≡ slot) waiting

-- no two entries are at one slot
abbrev pub HasDistinctSlots : List Waiting → Type 0
HasDistinctSlots waiting = EachThen (λ v w. v.slot ≢ w.slot) waiting

-- whether two entries clash: they wait at one home, and their uses clash
abbrev pub entries_clash : Waiting → Waiting → Bool
entries_clash v w = (v.home == w.home) && uses_clash (v.key, v.mode) (w.key, w.mode)

-- the entry at a slot; where none waits there, an arbitrary entry
abbrev pub entry_at : List Waiting → ℕ → Waiting
entry_at [] slot = record { slot = slot; home = 0; key = []; mode = Read; vertex = 0 }
entry_at (w ∷ waiting) slot = if w.slot == slot then w else entry_at waiting slot

-- the entries that were pushed before the one at a slot
abbrev pub pushed_before : List Waiting → ℕ → List Waiting
pushed_before [] slot = []
pushed_before (w ∷ waiting) slot = if w.slot == slot then [] else w ∷ pushed_before waiting slot

-- of entries in the order of their pushes those nearest to a later one that they clash with: after them none of these
-- entries clashes with both
abbrev pub nearest : Waiting → List Waiting → List Waiting
nearest x [] = []
nearest x (w ∷ later) =
    if entries_clash w x && not (list_any (λ m. entries_clash w m && entries_clash m x) later) then w ∷ nearest x later else nearest x later

-- the neighbours of the entry at a slot: of the entries before it the nearest that clash with it
abbrev pub neighbours : List Waiting → ℕ → List Waiting
neighbours waiting slot = nearest (entry_at waiting slot) (pushed_before waiting slot)

-- whether the entry at one slot is a neighbour of the entry at another
abbrev pub is_neighbour : List Waiting → ℕ → ℕ → Bool
is_neighbour waiting slot other = list_any (is_at slot) (neighbours waiting other)

-- the followers of the entry at a slot: those of which it is a neighbour
abbrev pub followers : List Waiting → ℕ → List Waiting
followers waiting slot = filter (λ w. is_neighbour waiting slot w.slot) waiting

-- an entry as a follower: its slot and its vertex
abbrev pub follower_of : Waiting → Follower
follower_of w = record { slot = w.slot; vertex = w.vertex }

-- what waits after the entry at a slot was taken out
abbrev pub taken_out : List Waiting → ℕ → List Waiting
taken_out waiting slot = filter (λ w. not (w.slot == slot)) waiting
