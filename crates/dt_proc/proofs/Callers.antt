-- What the proofs of crates above may cite of this crate's lemmas, and nothing else of its proofs: a text has one outcome and
-- no other, procedures are sound, those that a text means and the built-in ones, and many threads may read them at once.
pub use Rattle.dt_proc.proofs.SharedByThreads.{procs_sync}
pub use Rattle.dt_proc.proofs.EveryOutcome.{every_text}
pub use Rattle.dt_proc.proofs.OneOutcome.{one_outcome}
pub use Rattle.dt_proc.proofs.SoundProcs.{builtin_sound, outcome_sound}
