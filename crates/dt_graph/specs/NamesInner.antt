-- The ids of the vertices: the number of an id is its place in a list in which none stands twice, and an index of dt_index leads
-- to it. Read next: `HeldInner`, of which they are a part.
use Rattle.std.specs.Prelude.{◌<◌, ◌^◌, ℕ, List, length, Option}
use Rattle.dt_lists.specs.Lists.{Distinct}
use Rattle.dt_access.specs.declared.TxnId.{TxnId}
use Rattle.dt_graph.specs.SubsetInner.{StandsAtPlace}

-- the ids by their numbers, and how many more fit in without taking memory: into the list of them, and into the
-- index
pub record NamesView : Type 0 where
  pub ids : List TxnId
  pub room : ℕ
  pub spare : ℕ

-- one more id fits in without taking memory
abbrev pub HasRoomForId : NamesView → Type 0
HasRoomForId n = (0 < n.room) × (0 < n.spare)

-- each id stands once and has its number; numbers have 32 bits
pub record AreIdsNumbered (ids : List TxnId) (numbers : TxnId → Option ℕ) : Type 0 where
  pub few : length ids < 2 ^ 32
  pub once : Distinct ids
  pub found : (id : TxnId) → StandsAtPlace ids id (numbers id)
