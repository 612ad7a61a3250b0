-- What the proofs of crates above may cite of this crate, and nothing else of its proofs: that legal events lead to the world in
-- which a node stands, and that these are few; what the greatest of some numbers is; that what all items have, the first n have; and
-- that what a region holds is found, each under its id.
pub use Rattle.dt_node.proofs.EventsGoOn.{reached}
pub use Rattle.dt_node.proofs.EventLimit.{few_events}
pub use Rattle.dt_node.proofs.Greatest.{above_greatest, greatest_below}
pub use Rattle.dt_node.proofs.WholePackets.{IsHeld, all_take, found_ids, found_parts}
