-- What the proofs of crates above may cite of this crate; they cite nothing else of its proofs.
pub use Rattle.dt_pool.proofs.SendItems.{server_send}
pub use Rattle.dt_pool.proofs.SendCaptures.{and_moved, captures_send, no_more}
