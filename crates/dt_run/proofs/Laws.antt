-- What this crate cites of the laws of merges, of chronicles and of sums, and of what nodes, sites and worlds are.
pub use Rattle.dt_merge.proofs.Callers.{merge_of_none, merge_begins, merge_exists, merge_keeps, merge_sums, region_of_kept, are_kept, merge_legal, merge_changes, merge_world}
pub use Rattle.dt_merge.proofs.Callers.{frame, events_few, most_few, grown_refl, grown_trans, legal_grows, asked_front, attempt_same, logs_same, node_same, session_same, supply_lasts, two_fronts}
pub use Rattle.dt_merge.proofs.Callers.{attempt_of_own, own_answered, own_appended, own_delivered, own_moved, own_submitted}
pub use Rattle.dt_merge.proofs.Callers.{sum_below_added, sum_below_first, sum_below_le, sum_below_same}
pub use Rattle.dt_node.proofs.Callers.{reached, few_events, above_greatest, greatest_below, IsHeld, all_take, found_ids, found_parts}
pub use Rattle.dt_site.proofs.Callers.{own_of}
pub use Rattle.dt_world.proofs.Callers.{tables_are}
pub use Rattle.dt_lists.proofs.Callers.{front_length}
