-- What a proof of a crate above may cite of this crate: nothing else of `proofs/` is cited from there. First
-- the laws of legal lists and of what events do, then small facts of one world that keeps the invariant, by what they speak of:
-- ids, logs, views, requests, sessions.
pub use Rattle.dt_agreement.proofs.LegalWorlds.{legal_keeps, next_keeps}
pub use Rattle.dt_agreement.proofs.LaterWorlds.{next_found, next_txns}
pub use Rattle.dt_agreement.proofs.Runs.{world_from_append, world_after_more, legal_append, legal_more, append_legal, more_legal, run_front, with_executed, ordered, order_of_more}
pub use Rattle.dt_agreement.proofs.AllAgree.{lookup_has, answered_done, legal_agree}
pub use Rattle.dt_agreement.proofs.Rule1Submit.{Submits, next_call_submits}
pub use Rattle.dt_agreement.proofs.Rule2Append.{IsRequest, append_cases, logs_placed, placed_well_formed, request_is}
pub use Rattle.dt_agreement.proofs.Rule6Execute.{executable_known}
pub use Rattle.dt_agreement.proofs.Submissions.{WasSubmitted, find_has, from_region, numbered, home_region, submission_is_found, txn_there, txn_id}
pub use Rattle.dt_agreement.proofs.Views.{fronts_longer, log_is, logs_length, received_log, received_own}
pub use Rattle.dt_agreement.proofs.RegionViews.{done_known, log_distinct, present_known, received_within, transaction_valid, view_longer}
pub use Rattle.dt_agreement.proofs.Logs.{part_homed}
pub use Rattle.dt_agreement.proofs.Homes.{ask_other}
pub use Rattle.dt_agreement.proofs.Annotations.{unmoved_at_first, body_fits, version_stays}
pub use Rattle.dt_agreement.proofs.Sessions.{answered_changed, answered_in, each_found, found_is_named, session_of_test, session_found}
pub use Rattle.dt_agreement.proofs.WaitingSessions.{WaitsAt, places_parallel, waiting_for}
pub use Rattle.dt_agreement.proofs.Reports.{executed_accounted, answer_accounted}
