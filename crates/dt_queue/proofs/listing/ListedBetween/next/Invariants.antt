use Rattle.std.proofs.Common.{◌≡◌, length}
use Rattle.dt_queue.specs.ListedInner.{listed_left}
use Rattle.dt_queue.proofs.listing.ListedBetween.next.Given as goal

abbrev pub invariant-loop-listing : goal.invariant-loop-listing
invariant-loop-listing l = listed_left l.self ≡ listed_left l.initial.self

abbrev pub decreases-loop-listing : goal.decreases-loop-listing
decreases-loop-listing l = length l.self.listings.now
