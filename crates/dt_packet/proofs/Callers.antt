-- What the proofs of crates above may cite of this crate, and nothing else of `proofs/`: that a packet has one verdict, and
-- that a plan does not lose two packets in a row.
pub use Rattle.dt_packet.proofs.Verdicts.{one_of_two, one_verdict}
