-- What the proofs of crates above may cite of this crate, and nothing else of its proofs: that the summary of a finished run is
-- known.
pub use Rattle.dt_gen.proofs.KnownSummary.{each_summary}
