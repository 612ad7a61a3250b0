-- What the proofs of crates above may cite of this crate, and nothing else of `proofs/`: the home of a part that may be
-- inserted, and what the answer of a test says.
pub use Rattle.dt_plain.proofs.InsertConditions.{home_there}
pub use Rattle.dt_plain.proofs.Scan.{refuted, tested}
