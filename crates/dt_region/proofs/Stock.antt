-- The room of a region: its stores still have places for as many executions when one event more was kept, and for one less
-- when one was finished.
use Rattle.std.proofs.Common.{◌≤◌, ◌+◌, ◌-◌, ℕ, arith}
use Rattle.dt_region.specs.RegionInner.{HasStock}

-- an event more is kept, for which a place was made beside those of the room
pub stock_kept : {room before made after done changes finished later : ℕ} → HasStock room before done changes finished → room + 1 ≤ made → made ≤ after + 1 → finished ≤ later
    → HasStock room after done changes later
stock_kept stock here kept grown =
    let a = stock.finishes in
    record {
      events = omega (arith, here, kept);
      done = stock.done;
      changes = stock.changes;
      few = stock.few;
      finishes = omega (arith, a, grown);
    }

-- an execution is finished: one event, one id and at most 17 changes more
pub stock_spent : {room events done changes finished events' done' changes' finished' spent : ℕ} → HasStock room events done changes finished → 1 ≤ room
    → events ≤ events' + 1 → done ≤ done' + 1 → changes ≤ changes' + spent → spent ≤ 17 → finished ≤ finished' + 1 → HasStock (room - 1) events' done' changes' finished'
stock_spent stock some e d c few f =
    let a = stock.events in
    let b = stock.done in
    let g = stock.changes in
    let few-before = stock.few in
    let h = stock.finishes in
    record {
      events = omega (arith, a, e, some);
      done = omega (arith, b, d, some);
      changes = omega (arith, g, c, few, some);
      few = omega (arith, few-before, some);
      finishes = omega (arith, h, f, some);
    }

-- no room
pub stock_none : {events done changes finishes : ℕ} → HasStock 0 events done changes finishes
stock_none = record { events = omega arith; done = omega arith; changes = omega arith; few = omega arith; finishes = omega arith }
