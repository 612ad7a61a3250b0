use Rattle.std.proofs.Common.{get_or, take}
use Rattle.std.proofs.lemmas.List.{take_more}
use Rattle.dt_queue.specs.declared.listing.Listing.{Listing}
use Rattle.dt_queue.specs.TableInner.{lanes_read, lanes_written}
use Rattle.dt_queue.proofs.Listings.{forgets_more}
use Rattle.dt_queue.proofs.listed.forget_unused.Goals as goal

pub loop-listing-preserved : goal.loop-listing-preserved
loop-listing-preserved c =
    let xs = c.args.listings.now in
    let at = c.loop-listing.listing-index in
    let none : Listing = record { row = 0; number = 0; before = 0 } in
    rw (take_more xs at none c.loop-listing-test.true)
    (forgets_more (lanes_read c.args.table.now) (lanes_written c.args.table.now) (take at xs) (get_or xs at none) c.args.last.now.items c.loop-listing.last.items c.forget_if_unused.new.last.items
    c.loop-listing.invariant c.forget_if_unused.ensures)
