-- When it does not matter in which order events of different regions happen. A world is considered only through the part of it
-- that is each region's own: an event changes the own part of one region, and is legal by that part and, if it takes
-- something from another region, by that being there. Nothing else is known here of worlds and events. Read next:
-- proofs/EventOrders.antt, what follows: lists of events of many regions may be reordered.
use Rattle.std.specs.Prelude.{◌≡◌, ◌≢◌, ◌<◌, ◌≤◌, ◌==◌, ℕ, zero, suc, List, [], ◌∷◌, ◌++◌, filter, Option, Some}
use Rattle.dt_lists.specs.Lists.{AllIn, IsFront}

-- worlds, their events, and the own parts of regions
pub record Regions (W E O : Type 0) : Type 1 where
  -- the region that an event is of
  pub region : E → ℕ
  -- the other region that an event takes something from, if it does
  pub source : E → Option ℕ
  -- the world after an event
  pub next : W → E → W
  -- what is a region's own in a world
  pub own : W → ℕ → O
  -- the worlds that are considered
  pub Good : W → Type 0
  -- the event is legal in the world
  pub Legal : W → E → Type 0
  -- what the event takes from another region is there
  pub Supplied : W → E → Type 0
  -- an own part has grown to another
  pub Grown : O → O → Type 0

-- the world after events, from a world
abbrev pub after_all : {W E O : Type 0} → Regions W E O → W → List E → W
after_all g w [] = w
after_all g w (e ∷ events) = after_all g (g.next w e) events

-- each event is legal in the world of those before it, from a world
abbrev pub AreLegalIn : {W E O : Type 0} → Regions W E O → W → List E → Type 0
AreLegalIn g w [] = Unit {0}
AreLegalIn g w (e ∷ events) = g.Legal w e × AreLegalIn g (g.next w e) events

-- each event changes the world in which it happens
abbrev pub AllChangeIn : {W E O : Type 0} → Regions W E O → W → List E → Type 0
AllChangeIn g w [] = Unit {0}
AllChangeIn g w (e ∷ events) = (g.next w e ≢ w) × AllChangeIn g (g.next w e) events

-- the events of a region, in their order
abbrev pub those_of : {W E O : Type 0} → Regions W E O → ℕ → List E → List E
those_of g q events = filter (λ e. g.region e == q) events

-- all that was there in the one world is there in the other
abbrev pub Below : {W E O : Type 0} → Regions W E O → W → W → Type 0
Below g w v = (q : ℕ) → g.Grown (g.own w q) (g.own v q)

-- events are local
pub record AreLocal {W E O : Type 0} (g : Regions W E O) : Type 0 where
  -- legal events lead to worlds that are considered
  pub kept : (w : W) (e : E) → g.Good w → g.Legal w e → g.Good (g.next w e)
  -- a world is what the regions have as their own
  pub whole : (w v : W) → g.Good w → g.Good v → ((q : ℕ) → g.own w q ≡ g.own v q) → w ≡ v
  -- an event leaves what is the own of other regions
  pub frame : (w : W) (e : E) (q : ℕ) → g.region e ≢ q → g.own (g.next w e) q ≡ g.own w q
  -- own parts only grow
  pub grows : (w : W) (e : E) → g.Good w → g.Legal w e → Below g w (g.next w e)
  pub grown_refl : (a : O) → g.Grown a a
  pub grown_trans : (a b c : O) → g.Grown a b → g.Grown b c → g.Grown a c
  -- a legal event finds what it takes, and what an event takes that is legal somewhere stays there
  pub supplied : (w : W) (e : E) (q : ℕ) → g.source e ≡ Some q → g.Legal w e → g.Supplied w e
  pub lasting : (u w v : W) (e : E) (q : ℕ) → g.Legal u e → g.Good w → g.Good v → g.source e ≡ Some q → g.Grown (g.own w q) (g.own v q) → g.Supplied w e → g.Supplied v e
  -- the law of locality. Two worlds on the way to a third have the same own part of the event's region. Where the event is
  -- legal in the one, and the other has what it takes from elsewhere, it is legal in the other, and does the same to that part
  pub local : (w v z : W) (e : E) → g.Good w → g.Good v → g.Good z → Below g w z → Below g v z → g.own w (g.region e) ≡ g.own v (g.region e)
      → g.Legal w e → ((q : ℕ) → g.source e ≡ Some q → g.Supplied v e)
      → g.Legal v e × (g.own (g.next w e) (g.region e) ≡ g.own (g.next v e) (g.region e))

-- the second list is a rescheduling of fronts of the first, from a world: of each region it has a front of what the first
-- has, and each event finds what it takes from another region, wherever in the first list that region is as far as before
-- the event in the second
pub record IsRescheduling {W E O : Type 0} (g : Regions W E O) (w : W) (events others : List E) : Type 0 where
  pub fronts : (q : ℕ) → IsFront (those_of g q others) (those_of g q events)
  pub fed : (before : List E) (e : E) (behind front rest : List E) (q : ℕ) → others ≡ before ++ e ∷ behind → events ≡ front ++ rest
      → g.source e ≡ Some q → those_of g q front ≡ those_of g q before → g.Supplied (after_all g w front) e

-- what follows from it: it is legal; a region ends as where the first list has just its events of that region; and where each
-- event of the first list changes something, so does each of the second
pub record Rescheduled {W E O : Type 0} (g : Regions W E O) (w : W) (events others : List E) : Type 0 where
  pub legal : AreLegalIn g w others
  pub ends : (q : ℕ) (front rest : List E) → events ≡ front ++ rest → those_of g q front ≡ those_of g q others → g.own (after_all g w others) q ≡ g.own (after_all g w front) q
  pub changing : AllChangeIn g w events → AllChangeIn g w others

-- the turns of the first n regions, one after another
abbrev pub one_by_one : {E : Type 0} → (ℕ → List E) → ℕ → List E
one_by_one turns zero = []
one_by_one turns (suc n) = one_by_one turns n ++ turns n

-- each of the first n regions makes a turn of its own events, which are legal as if no other region did anything
pub record AreTurns {W E O : Type 0} (g : Regions W E O) (w : W) (turns : ℕ → List E) (n : ℕ) : Type 0 where
  pub mine : (q : ℕ) → q < n → AllIn (λ e. g.region e ≡ q) (turns q)
  pub legal : (q : ℕ) → q < n → AreLegalIn g w (turns q)

-- what follows from it: one after another they are legal too; each region ends as after its own turn, and all others stay; and
-- where each event of each turn changes something, so does each of them all
pub record AreSideBySide {W E O : Type 0} (g : Regions W E O) (w : W) (turns : ℕ → List E) (n : ℕ) : Type 0 where
  pub legal : AreLegalIn g w (one_by_one turns n)
  pub each : (q : ℕ) → q < n → g.own (after_all g w (one_by_one turns n)) q ≡ g.own (after_all g w (turns q)) q
  pub others : (q : ℕ) → n ≤ q → g.own (after_all g w (one_by_one turns n)) q ≡ g.own w q
  pub changing : ((q : ℕ) → q < n → AllChangeIn g w (turns q)) → AllChangeIn g w (one_by_one turns n)
