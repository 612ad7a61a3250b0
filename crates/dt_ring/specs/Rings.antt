-- The two ends of a ring, which is a link between two regions that run in threads of their own. Neither end knows what the
-- other did since the two were last beside each other: the outlet knows what it put by then and what it put since, and the
-- inlet what it took and what it then learnt to be waiting. That they are ends of one ring (`AreEnds`) is so whenever both
-- stand still. While they are apart, each end only says that it is still the same end (`SameOut`, `SameIn`); the two
-- together make that they are still a pair (`EndsStayEnds`). Read next: src/ends.rt, where `beside` brings them together.
use Rattle.std.specs.Prelude.{◌≡◌, ℕ, List, ◌++◌}
use denote.RawPtr.{Ptr}
use Rattle.std.specs.declared.alloc.Global.{Global}
use Rattle.rtrb.specs.Shared.{Names}
use Rattle.dt_packet.specs.declared.packet.Packet.{Packet}

-- what tells one ring from another: where its counts and its places lie in memory, its names in proofs, and who gave the
-- memory
pub record RingName : Type 0 where
  pub counts : Ptr
  pub places : Ptr
  pub names : Names
  pub memory : Global

-- what is seen of an outlet: its ring, what was put before the ends were last beside each other and what was put since, how
-- many places the ring has, and how many of them are known to be free
pub record RingOutView : Type 0 where
  pub ring : RingName
  pub before : List Packet
  pub put : List Packet
  pub places : ℕ
  pub free : ℕ

-- what is seen of an inlet: its ring, all that was taken, and what is known to wait, the one that was put first in front
pub record RingInView : Type 0 where
  pub ring : RingName
  pub taken : List Packet
  pub waits : List Packet

-- the two ends of one ring: what was put before they were last beside each other was taken, or is known to wait
pub record AreEnds (out : RingOutView) (inlet : RingInView) : Type 0 where
  pub ring : inlet.ring ≡ out.ring
  pub order : inlet.taken ++ inlet.waits ≡ out.before

-- the same outlet, not beside its inlet in between: it is of the same ring, and only what was put since may have changed
pub record SameOut (first later : RingOutView) : Type 0 where
  pub ring : later.ring ≡ first.ring
  pub before : later.before ≡ first.before
  pub places : later.places ≡ first.places

-- the same inlet, not beside its outlet in between: it is of the same ring, and what was taken since was known to wait
pub record SameIn (first later : RingInView) : Type 0 where
  pub ring : later.ring ≡ first.ring
  pub order : later.taken ++ later.waits ≡ first.taken ++ first.waits

-- the two ends of a ring stay so while each is still the same end
abbrev pub EndsStayEnds : Type 0
EndsStayEnds = (out out' : RingOutView) (inlet inlet' : RingInView) → AreEnds out inlet → SameOut out out' → SameIn inlet inlet' → AreEnds out' inlet'
