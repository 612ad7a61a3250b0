-- Scaffolding: how links are made, and how the ends of all of them are brought beside each other, one source after another.
-- Read `SeatsInner` before. Read next: src/links.rt, whose calls do this.
use Rattle.std.specs.Prelude.{◌≡◌, ◌≢◌, ◌<◌, ◌≤◌, ◌+◌, ◌-◌, ◌⊎◌, ◌++◌, ◌∷◌, ℕ, List, [], get_or, length, map, set}
use Rattle.dt_ring.specs.Rings.{RingInView, RingOutView}
use Rattle.dt_run.specs.NodesView.{link_to}
use Rattle.dt_run.specs.SeatsInner.{EndsAreApart, AreBeside, SeatView, seat_at}

-- the two ends of a link were brought beside each other: what was put waits behind what still waited
pub record LinkGoes (out : RingOutView) (inlet : RingInView) (out' : RingOutView) (inlet' : RingInView) : Type 0 where
  pub beside : AreBeside out' inlet'
  pub waits : inlet'.waits ≡ inlet.waits ++ out.put

-- the ends of the link from one seat to another
abbrev pub out_at : List SeatView → ℕ → ℕ → RingOutView → RingOutView
out_at seats source target d = get_or (seat_at seats source).outs (link_to source target) d

-- and its other end
abbrev pub in_at : List SeatView → ℕ → ℕ → RingInView → RingInView
in_at seats source target e = get_or (seat_at seats target).ins (link_to target source) e

-- a seat without its links
abbrev pub without_links : SeatView → SeatView
without_links s = record s { ins = []; outs = [] }

-- the two ends of a link that was just made: nothing waits
pub record AreFresh (out : RingOutView) (inlet : RingInView) : Type 0 where
  pub beside : AreBeside out inlet
  pub empty : inlet.waits ≡ []

-- a link was made from one seat to another; each of its ends stands behind those that the seat had, and all else is as before
pub record LinkAdded (source target : ℕ) (before after : List SeatView) : Type 0 where
  pub out : RingOutView
  pub inlet : RingInView
  pub fresh : AreFresh out inlet
  pub seats : map without_links after ≡ map without_links before
  pub outs : (seat_at after source).outs ≡ (seat_at before source).outs ++ out ∷ []
  pub ins : (seat_at after target).ins ≡ (seat_at before target).ins ++ inlet ∷ []
  pub other_outs : (region : ℕ) → region ≢ source → (seat_at after region).outs ≡ (seat_at before region).outs
  pub other_ins : (region : ℕ) → region ≢ target → (seat_at after region).ins ≡ (seat_at before region).ins

-- a seat has n ends of links of each kind
pub record HasEnds (count : ℕ) (s : SeatView) : Type 0 where
  pub outs : length s.outs ≡ count
  pub ins : length s.ins ≡ count

-- the outlet from one seat to another has its inlet there, and both are as they were made
pub record IsJoined (seats : List SeatView) (source target : ℕ) : Type 0 where
  pub inlet : link_to target source < length (seat_at seats target).ins
  pub fresh : (d : RingOutView) (e : RingInView) → AreFresh (out_at seats source target d) (in_at seats source target e)

-- of these new seats, those of the regions below one are linked with each other, and that one with the first n of them
pub record LinkedSoFar (region other : ℕ) (before now : List SeatView) : Type 0 where
  pub seats : map without_links now ≡ before
  pub first : (r : ℕ) → r < other → HasEnds region (seat_at now r)
  pub rest : (r : ℕ) → other ≤ r → r < region → HasEnds (region - 1) (seat_at now r)
  pub here : HasEnds other (seat_at now region)
  pub above : (r : ℕ) → region < r → HasEnds 0 (seat_at now r)
  pub joined : (source target : ℕ) → source < length now → target < length now → source ≢ target → link_to source target < length (seat_at now source).outs → IsJoined now source target

-- nothing but links has changed at a seat, and it has as many
pub record SameButLinks (before after : SeatView) : Type 0 where
  pub node : after.node ≡ before.node
  pub marks : after.marks ≡ before.marks
  pub failed : after.failed ≡ before.failed
  pub ins : length after.ins ≡ length before.ins
  pub outs : length after.outs ≡ length before.outs

-- the ends of each link from the first n seats were brought beside each other, and those of all others are as before
pub record BesideSoFar (count : ℕ) (before now : List SeatView) : Type 0 where
  pub many : length now ≡ length before
  pub same : (region : ℕ) → region < length before → SameButLinks (seat_at before region) (seat_at now region)
  pub gone : (source target : ℕ) (d : RingOutView) (e : RingInView) → source < count → source < length before → target < length before → source ≢ target
      → LinkGoes (out_at before source target d) (in_at before source target e) (out_at now source target d) (in_at now source target e)
  pub outs_left : (source target : ℕ) (d : RingOutView) → count ≤ source → source < length before → target < length before → source ≢ target
      → out_at now source target d ≡ out_at before source target d
  pub ins_left : (source target : ℕ) (e : RingInView) → count ≤ source → source < length before → target < length before → source ≢ target
      → in_at now source target e ≡ in_at before source target e

-- an inlet of a seat and this outlet were brought beside each other, and all else at the seat is as before
pub record InletGoes (place : ℕ) (out : RingOutView) (before : SeatView) (out' : RingOutView) (after : SeatView) : Type 0 where
  pub inlet : RingInView
  pub goes : LinkGoes out (get_or before.ins place inlet) out' inlet
  pub after_is : after ≡ record before { ins = set before.ins place inlet }

-- nothing but inlets has changed at a seat, and it has as many
pub record SameButIns (before after : SeatView) : Type 0 where
  pub node : after.node ≡ before.node
  pub marks : after.marks ≡ before.marks
  pub failed : after.failed ≡ before.failed
  pub outs : after.outs ≡ before.outs
  pub ins : length after.ins ≡ length before.ins

-- the first n outlets of a seat were brought beside their inlets, and all else is as before
pub record RowSoFar (source count : ℕ) (row : List RingOutView) (before : List SeatView) (row' : List RingOutView) (now : List SeatView) : Type 0 where
  pub many : length now ≡ length before
  pub many_outs : length row' ≡ length row
  pub same : (region : ℕ) → region < length before → SameButIns (seat_at before region) (seat_at now region)
  pub gone : (target : ℕ) (d : RingOutView) (e : RingInView) → link_to source target < count → target < length before → source ≢ target
      → LinkGoes (get_or row (link_to source target) d) (in_at before source target e) (get_or row' (link_to source target) d) (in_at now source target e)
  pub row_left : (link : ℕ) (d : RingOutView) → count ≤ link → get_or row' link d ≡ get_or row link d
  pub ins_left : (target : ℕ) (e : RingInView) → count ≤ link_to source target → target < length before → source ≢ target → in_at now source target e ≡ in_at before source target e
  pub others : (region place : ℕ) (e : RingInView) → region < length before → (region ≡ source) ⊎ (place ≢ link_to region source)
      → get_or (seat_at now region).ins place e ≡ get_or (seat_at before region).ins place e

-- the outlets of a seat, taken out of it, and the inlets at their other ends
pub record RowApart (source : ℕ) (row : List RingOutView) (seats : List SeatView) : Type 0 where
  pub within : source < length seats
  pub many : length row + 1 ≡ length seats
  pub ins : (region : ℕ) → region < length seats → length (seat_at seats region).ins + 1 ≡ length seats
  pub each : (target : ℕ) (d : RingOutView) (e : RingInView) → target < length seats → source ≢ target → EndsAreApart (get_or row (link_to source target) d) (in_at seats source target e)

-- the ends of each link from one seat were brought beside each other, and those of all others are as before
pub record LinksGo (source : ℕ) (before after : List SeatView) : Type 0 where
  pub many : length after ≡ length before
  pub same : (region : ℕ) → region < length before → SameButLinks (seat_at before region) (seat_at after region)
  pub gone : (target : ℕ) (d : RingOutView) (e : RingInView) → target < length before → source ≢ target
      → LinkGoes (out_at before source target d) (in_at before source target e) (out_at after source target d) (in_at after source target e)
  pub outs_left : (other target : ℕ) (d : RingOutView) → other ≢ source → other < length before → out_at after other target d ≡ out_at before other target d
  pub ins_left : (other target : ℕ) (e : RingInView) → other ≢ source → other ≢ target → target < length before → in_at after other target e ≡ in_at before other target e
