-- What a caller's proof needs of the dependency graph: what stays as a view grows, classes, precedence, and what is
-- decided. All other lemmas of this crate are its own.
pub use Rattle.dt_sched.proofs.LongerViews.{complete_longer, longer_refl, parts_cons, present_longer, reaches_longer, well_formed_front}
pub use Rattle.dt_sched.proofs.ClosedTransactions.{class_stays, closed_listed, closed_stays, complete_of_closed, edge_at_home, home_of_edge}
pub use Rattle.dt_sched.proofs.ClosedTransactions.{part_of_complete, preceders_stay, reaches_back}
pub use Rattle.dt_sched.proofs.Reach.{each_reaching_decided, edge_target, has_of_present, ids_in, present_decided}
pub use Rattle.dt_sched.proofs.Reach.{ids_in_length, present_of_complete, reach_decided, reach_source}
pub use Rattle.dt_sched.proofs.Precedence.{comparable_in_log, precedes_decided, precedes_irreflexive, precedes_transitive}
pub use Rattle.dt_sched.proofs.Ranks.{rank_of_part, sooner_breaks_ties}
pub use Rattle.dt_sched.proofs.Classes.{class_alone, class_of, class_of_member, class_unique, few_groups, in_own_class, several_in_class}
pub use Rattle.dt_sched.proofs.Decisions.{has_id_decided}
pub use Rattle.dt_sched.proofs.StableDecisions.{executable_stays}
pub use Rattle.dt_sched.proofs.NothingToDo.{done_where_closed}
pub use Rattle.dt_sched.proofs.OnePartMore.{empty_log, has_with_part, log_with_part, put_log, with_part_longer, with_part_well_formed}
pub use Rattle.dt_sched.proofs.Sound.{sound_at_first, sound_execute, sound_insert, sound_longer, sound_resolve, sound_with_none}
pub use Rattle.dt_sched.proofs.OneHome.{class_single, none_resolvable}
