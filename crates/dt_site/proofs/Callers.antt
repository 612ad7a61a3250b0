-- What the proofs of crates above may cite of this crate; they cite nothing else of its proofs.
pub use Rattle.dt_site.proofs.Results.{on_ok}
pub use Rattle.dt_site.proofs.Lists.{attempt_at, attempts_have}
pub use Rattle.dt_site.proofs.ListLengths.{HasShortLists, legal_short}
pub use Rattle.dt_site.proofs.SitesInWorlds.{Steps, after_more, held_in_log, received_stay, a_region, inv, many_here, others_stand, own_of, outcome_here, own_log, run_more, txns_stay}
pub use Rattle.dt_site.proofs.AskedRequests.{AsksFor, asked_held, asks_for, request_held}
pub use Rattle.dt_site.proofs.Moves.{can_move, counter_few, fits_region, holds_valid}
pub use Rattle.dt_site.proofs.Opening.{opening_node_is, opening_stands}
pub use Rattle.dt_site.proofs.Rule1Submit.{Submits, ids, origin_for, submit_elsewhere, submit_legal, submit_made, waits_as}
pub use Rattle.dt_site.proofs.Rule2Append.{append_legal, append_made, append_still, can_append, is_turn}
pub use Rattle.dt_site.proofs.Rule3Deliver.{apart, can_deliver, deliver_legal, deliver_made, deliver_still, has_received, joins, joins_from, joins_to}
pub use Rattle.dt_site.proofs.OwnSteps.{insert_made, insert_refused, resolve_made, resolve_refused, execute_made, execute_refused}
pub use Rattle.dt_site.proofs.Rule7Answer.{Answers, answer_elsewhere, answer_legal, answer_made}
pub use Rattle.dt_site.proofs.SessionsStand.{last_in, may_answer, may_be_answered, may_go, may_submit, numbers_are, kept_here, opening_sessions_stand, places_are}
pub use Rattle.dt_site.proofs.NextAttempt.{name_at, no_name_at}
pub use Rattle.dt_site.proofs.SessionsStand.{StandsElsewhere, others_sessions, seat_alike, seat_changed, sessions_changed, sessions_stay}
