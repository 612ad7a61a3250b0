-- What the proofs of crates above may cite of this crate, and nothing else of `proofs/`. The laws stand here for any order
-- of ids, where `src/laws.rt` has them for an order that a test decides; beside them what a run comes to when it grows, and
-- what a transaction sees after one that it does not clash with.
pub use Rattle.dt_serial.proofs.Causes.{move_made, reasons}
pub use Rattle.dt_serial.proofs.History.{across_fewer, chain}
pub use Rattle.dt_serial.proofs.Lookups.{looked_filter, looked_from, looked_has, looked_ids, looked_members}
pub use Rattle.dt_serial.proofs.OneTransaction.{live_of_outcome}
pub use Rattle.dt_serial.proofs.Outcome.{across_moves, counters_exact, counters_reached, flag_down, flag_up, move_numbered, moves_front}
pub use Rattle.dt_serial.proofs.Outcome.{one_outcome, one_restricted, one_set, single_outcome}
pub use Rattle.dt_serial.proofs.PastOfId.{down_of_order, down_push}
pub use Rattle.dt_serial.proofs.Rows.{same_moves}
pub use Rattle.dt_serial.proofs.Runs.{movers_ran, moves_grow, has_outcome_at, outcomes_append, outcomes_ids, table_after_append}
pub use Rattle.dt_serial.proofs.SameOrder.{down_as, history_as}
pub use Rattle.dt_serial.proofs.ValidTransactions.{valid_keeps}
pub use Rattle.dt_serial.proofs.NoClash.{seen_apart}
