-- What the proofs of crates above may cite of this crate, and nothing else of `proofs/`: when a body can be run, that a valid
-- transaction moves a unit and changes few rows, what an annotated access list comes to, what homes and asking them come to,
-- that what a body gives is never stale, and what the fronts of logs come to.
pub use Rattle.dt_txn.proofs.RequestLists.{ask_length}
pub use Rattle.dt_txn.proofs.FewPlaces.{few_places}
pub use Rattle.dt_txn.proofs.ValidBodies.{can_run, moves_unit}
pub use Rattle.dt_txn.proofs.Fronts.{fronts_at, fronts_grown}
pub use Rattle.dt_txn.proofs.HomeSets.{set_of_ascending, with_number_all}
pub use Rattle.dt_txn.proofs.PartKeys.{annotated_uses}
pub use Rattle.dt_txn.proofs.Staleness.{own_fresh}
