-- What the proofs of crates above may cite of this crate, and nothing else of `proofs/`: what a table is before any
-- transaction, after writes and after an effect, when two tables are equal, when a home is a region, and the keys of a set.
pub use Rattle.dt_table.proofs.TableLaws.{all_written-keeps, counter_of-apply, get-put, home_after-below, home_of-below, homes-apply, move_at, moves_of-apply, moves_of-opening}
pub use Rattle.dt_table.proofs.TableLaws.{regions-apply, same_table, version-apply}
pub use Rattle.dt_table.proofs.ShownKeys.{keys_of-set}
