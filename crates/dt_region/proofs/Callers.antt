-- What the proofs of crates above may cite of this crate; they cite nothing else of its proofs.
pub use Rattle.dt_region.proofs.Find.{held_own}
pub use Rattle.dt_region.proofs.HeldTransactions.{held_id}
pub use Rattle.dt_region.proofs.Logs.{fronts_few, fronts_length, log_few, parts_none}
pub use Rattle.dt_region.proofs.OpeningRegion.{no_rows_fit}
pub use Rattle.dt_region.proofs.Rule3Deliver.{all_drop}
pub use Rattle.dt_region.proofs.Rule6Execute.{executable_held}
pub use Rattle.dt_region.proofs.Stamps.{kept_more, latest_more}
pub use Rattle.dt_region.proofs.StepSound.{step_sound}
pub use Rattle.dt_region.proofs.ExecutableStays.{execute_leaves, insert_leaves, resolve_leaves}
pub use Rattle.dt_region.proofs.OneStepMore.{continues_none}
pub use Rattle.dt_region.proofs.Underway.{at_first, moves_left, one_more, stamp_left, whatever_room}
