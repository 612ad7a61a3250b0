-- What a caller's proof needs of what is left and of the queues: how one entry stands to the others, what the members of a class
-- are, and that each call keeps the graph. All other lemmas of this crate are its own.
pub use Rattle.dt_waits.proofs.LeftTransactions.{class_of_resolved, executable_left, left_after}
pub use Rattle.dt_waits.proofs.NeighbourChains.{slot_other, slot_same}
pub use Rattle.dt_waits.proofs.Degrees.{degree_pushed}
pub use Rattle.dt_waits.proofs.Bounds.{degree_fits, degree_of_new}
pub use Rattle.dt_waits.proofs.Sums.{filter_both, filter_same}
pub use Rattle.dt_waits.proofs.DegreeZero.{id_has, place_has, same_place}
pub use Rattle.dt_waits.proofs.MissingParts.{none_lacking}
pub use Rattle.dt_waits.proofs.Classes.{each_leads, member_stuck, none_blocked, not_all_blocked, place_leads, source_resolvable}
pub use Rattle.dt_waits.proofs.RunInOrder.{pairwise_get}
pub use Rattle.dt_waits.proofs.InsertStep.{counted_before, missing_before}
pub use Rattle.dt_waits.proofs.FinishStep.{distinct_members, member_of, next_is}
pub use Rattle.dt_waits.proofs.LeavingDegrees.{may_leave}
pub use Rattle.dt_waits.proofs.KeepsGraph.{at_named, keeping_finish, keeping_first, keeping_pushed, keeping_resolve, next_ready_told, ready_executable}
pub use Rattle.dt_waits.proofs.PastVertices.{past_entries}
