-- What the proofs of crates above may cite of this crate, and nothing else of its proofs: that an event leaves what is the own
-- of other regions, and what it does to its own region's part is the same in every world that has that part; that the opening
-- world keeps the invariant, and that a world which does has a node for each region; how worlds grow, and what two worlds say
-- of a region whose own part is the same in both; that the kept lists of regions have one merge, which is legal, and what sums
-- over it are; how many events can change something, also as a number; and sums below a bound.
pub use Rattle.dt_merge.proofs.Frames.{frame}
pub use Rattle.dt_merge.proofs.OwnSteps.{attempt_of_own, own_answered, own_appended, own_delivered, own_moved, own_submitted}
pub use Rattle.dt_merge.proofs.GoodWorlds.{node_there, opening_good}
pub use Rattle.dt_merge.proofs.SubmissionsStay.{grown_refl, grown_trans}
pub use Rattle.dt_merge.proofs.Worlds.{legal_grows}
pub use Rattle.dt_merge.proofs.LocalEvents.{asked_front, attempt_same, logs_same, node_same, session_same, supply_lasts}
pub use Rattle.dt_merge.proofs.FilterCuts.{two_fronts}
pub use Rattle.dt_merge.proofs.MergeLists.{merge_of_none, merge_begins, merge_keeps, region_of_kept}
pub use Rattle.dt_merge.proofs.MergesExist.{merge_exists}
pub use Rattle.dt_merge.proofs.MergeSums.{merge_sums}
pub use Rattle.dt_merge.proofs.Chronicles.{are_kept, merge_legal, merge_changes, merge_world}
pub use Rattle.dt_merge.proofs.Bound.{events_few}
pub use Rattle.dt_merge.proofs.EventLimit.{most_few}
pub use Rattle.dt_merge.proofs.SumsBelow.{sum_below_added, sum_below_first, sum_below_le, sum_below_same}
