-- What the proofs of crates above may cite of this crate, and nothing else of its proofs: which session a name finds, and that
-- what all sessions have, those of a region have.
pub use Rattle.dt_session.proofs.SessionsLaws.{idle_found, same_name, seat_found, sessions_at_all, with_session_all}
