-- What the proofs of crates above may cite of this crate; they cite nothing else of its proofs.
pub use Rattle.dt_lock.proofs.SyncCaptures.{and_shared, captures_sync, no_more}
