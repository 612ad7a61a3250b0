-- The ends of a link from one region to another. One region puts packets into its outlet, and the other takes them from its
-- inlet in the order in which they were put. When what was put becomes known to the other end is for the kind of link to
-- say: a shelf has one list for both. An outlet has some free places, and refuses a packet only where none is left, so that
-- a turn which is sure of its places never loses one. Read next: src/links.rt, the two calls, and src/shelf.rt.
use Rattle.std.specs.Prelude.{◌≡◌, ℕ, ◌+◌, List, [], ◌∷◌, ◌++◌, Option, None, Some, Result, Ok, Err}
use Rattle.dt_packet.specs.declared.packet.Packet.{Packet}

-- what is seen of an outlet: the packets that were put, in order, and how many places are free
pub record OutletView : Type 0 where
  pub put : List Packet
  pub free : ℕ

-- how putting a packet ends: it stands at the back, and one place less is free; or no place is free, it comes back, and
-- nothing has changed
abbrev pub Puts : OutletView → Packet → Result (Unit {0}) Packet → OutletView → Type 0
Puts before packet (Ok done) after = (before.free ≡ after.free + 1) × (after.put ≡ before.put ++ packet ∷ [])
Puts before packet (Err back) after = (before.free ≡ 0) × (back ≡ packet) × (after ≡ before)

-- how taking a packet ends: the front one is taken off; or none waits, and nothing has changed
abbrev pub TakesFront : List Packet → Option Packet → List Packet → Type 0
TakesFront before (Some packet) after = before ≡ packet ∷ after
TakesFront before None after = (before ≡ []) × (after ≡ [])

-- what is seen of a shelf: the packets that wait on it, the one that was put first in front, and how many it holds at most
pub record ShelfView : Type 0 where
  pub waiting : List Packet
  pub places : ℕ
