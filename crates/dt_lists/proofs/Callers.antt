-- What a caller's proof needs of lists: some items, each item, fronts, places, searches, filters, what is decided, chains, sums, and sorts.
-- All other lemmas of this crate are its own.
pub use Rattle.dt_lists.proofs.Words.{all_any, all_append, all_append_left, all_append_right, all_at, all_get, all_image, all_map, all_of_image}
pub use Rattle.dt_lists.proofs.Words.{all_put, any_append, any_append_left, any_append_right, any_at, any_from_at, any_get, any_image, any_map}
pub use Rattle.dt_lists.proofs.Words.{any_of_image, any_put, each_across, each_append, each_append_left, each_append_right, each_image, each_map}
pub use Rattle.dt_lists.proofs.Words.{each_of_image, has_map, some_across, some_append_left, some_get, some_map, some_of_two, within_get, within_refl}
pub use Rattle.dt_lists.proofs.Distinct.{distinct_push, distinct_within, few_below, two_of_different}
pub use Rattle.dt_lists.proofs.Keys.{HasKeyBefore, key_before_irreflexive, key_before_transitive, key_first, key_second, some_in_front}
pub use Rattle.dt_lists.proofs.Fronts.{all_front, any_front, each_front, front_append, front_empty, front_map, front_refl, front_take, front_takes}
pub use Rattle.dt_lists.proofs.Fronts.{front_length, front_trans, pairwise_any, pairwise_at, pairwise_length, pairwise_more, pairwise_one, pairwise_refl, some_back, some_front}
pub use Rattle.dt_lists.proofs.Tests.{any_of_test, test_of_any}
pub use Rattle.dt_lists.proofs.Decided.{either_all, either_and, either_and3, either_any, either_has, either_implies, either_le, either_list}
pub use Rattle.dt_lists.proofs.Decided.{either_nat, either_not, either_or, either_same, either_some, either_true}
pub use Rattle.dt_lists.proofs.Least.{IsMinimal, least}
pub use Rattle.dt_lists.proofs.Ascending.{IsPicked, ascending_same, pick}
pub use Rattle.dt_lists.proofs.Before.{PassesAtFront, Spot, all_of_gets, before_has, each_at, each_of_steps, filter_none, front_filtered}
pub use Rattle.dt_lists.proofs.Before.{get_filtered, get_front, get_seam, has_before, has_middle, if_passes, same_by_key, some_each, spot, spot_has}
pub use Rattle.dt_lists.proofs.Filters.{filter_all, filter_before, filter_each, filter_whole, has_filter, of_filter}
pub use Rattle.dt_lists.proofs.Places.{all_more, any_in_joined, any_of_joined, at_place, distinct_by_key, each_of_set, field_of_set, flat_map_of_set}
pub use Rattle.dt_lists.proofs.Places.{from_item, from_right, get_of_replicate, has_at, has_last, has_longer, has_more, has_of_filtered, has_place}
pub use Rattle.dt_lists.proofs.Places.{all_index, all_or, all_set, has_dropped, last_place, none_in_empty, one_place, place_in_longer, place_in_more, place_of}
pub use Rattle.dt_lists.proofs.Places.{all_of_places, at_back}
pub use Rattle.dt_lists.proofs.Searches.{Tells, added_new, found_at, lookup_has, missed, not_some, tells_number}
pub use Rattle.dt_lists.proofs.Chains.{chain_before, chain_decided, chain_join, chain_keeps, chain_map, chain_step, chain_takes_back, chain_turned}
pub use Rattle.dt_lists.proofs.Changes.{both_empty, joined_more, joined_none, none_some, same_head, same_rest, same_tail, set_beside, set_here, some_same}
pub use Rattle.dt_lists.proofs.Sums.{same_sums, sum_changes, sum_mapped, sum_of_sums, sum_same, within_sum}
pub use Rattle.dt_lists.proofs.Sorted.{each_of_sorted, has_listed, listed_has, permuted_apart, permuted_distinct, permuted_has}
