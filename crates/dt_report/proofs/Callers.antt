-- What a caller's proof needs of the text of reports: that it determines their events. All other lemmas of this crate are its own.
pub use Rattle.dt_report.proofs.EventsOfText.{tell_events}
