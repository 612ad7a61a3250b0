-- What a caller's proof needs of the text of events, and of a file of them: it is one list at most, and one line at most is its
-- first without a form. All other lemmas of this crate are its own.
pub use Rattle.dt_events.proofs.EveryFile.{no_fault, one_fault, one_list}
pub use Rattle.dt_events.proofs.PrintedEvents.{all_weaker, reads_back, within_line}
pub use Rattle.dt_events.proofs.Stamps.{last_of_more}
