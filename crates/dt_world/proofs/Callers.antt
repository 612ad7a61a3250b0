-- What the proofs of crates above may cite of this crate, and nothing else of its proofs: that the tables which a report of events
-- shows are those of the sites of all regions after these events.
pub use Rattle.dt_world.proofs.Reports.{tables_are}
