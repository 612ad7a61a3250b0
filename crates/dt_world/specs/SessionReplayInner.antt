-- Only proofs need this file, and the private calls of a report: what it follows of the events, one after another. Sites do not
-- keep who was answered when; so a report plays the events again, as far as they concern sessions: what each waits for, and how
-- many attempts each region submitted. One learns here what is so followed, and what the report has after the first n events.
-- Read `WorldReport` for the report.
use Rattle.std.specs.Prelude.{◌≡◌, ◌<◌, ◌+◌, ◌++◌, ◌∷◌, [], ℕ, List, length, map, get_or, set, take, filter_map, Option, Some, None, option_map, option_and_then}
use Rattle.std.specs.Borrow.{Bor}
use Rattle.dt_access.specs.Clash.{Bytes}
use Rattle.dt_access.specs.declared.TxnId.{TxnId}
use Rattle.dt_txn.specs.declared.Outcome.{Outcome}
use Rattle.dt_report.specs.declared.Ran.{Ran}
use Rattle.dt_report.specs.declared.Reply.{Reply}
use Rattle.dt_session.specs.World.{World, Submission, opening_world, outcome_at, submission_of}
use Rattle.dt_session.specs.Run.{order_of, world_after}
use Rattle.dt_agreement.specs.Invariant.{IsExecutedAt}
use Rattle.dt_site.specs.declared.Origin.{Origin}
use Rattle.dt_site.specs.Site.{attempt}
use Rattle.dt_world.specs.ReportSourceInner.{ReportSourceView, world_told}
use Rattle.dt_world.specs.WorldReport.{ran, ran_of, replies_from}

-- what each session waits for, and how many attempts each region has submitted
pub record SessionReplayView : Type 0 where
  pub waits : List (Option TxnId)
  pub submitted : List ℕ

-- what each session waits for in a world, and how many attempts each region has submitted there
abbrev pub replay_of : World → SessionReplayView
replay_of w = record { waits = map (λ p. p.waits) w.places; submitted = map (λ n. length n.submitted) w.nodes }

-- how many attempts a region has submitted
abbrev pub count_at : SessionReplayView → ℕ → ℕ
count_at c region = get_or c.submitted region 0

-- the id of the next attempt of a region
abbrev pub next_in : SessionReplayView → ℕ → TxnId
next_in c region = record { seq = count_at c region + 1; region = region }

-- what is followed after a region submitted an attempt of the session at this place, which waits for it
abbrev pub after_submission : SessionReplayView → ℕ → ℕ → SessionReplayView
after_submission c place region = record { waits = set c.waits place (Some (next_in c region)); submitted = set c.submitted region (count_at c region + 1) }

-- what is followed after the session at this place was answered: it waits for nothing
abbrev pub after_reply : SessionReplayView → ℕ → SessionReplayView
after_reply c place = record c { waits = set c.waits place None }

-- what the session at this place of the workload waits for
abbrev pub wait_at : SessionReplayView → ℕ → Option TxnId
wait_at c place = get_or c.waits place None

-- what is followed after the first n of the events
abbrev pub replay_at : ReportSourceView → ℕ → SessionReplayView
replay_at told at = replay_of (world_after told.cluster told.workload (take at told.events))

-- the replies that the first n of the events give
abbrev pub replies_at : ReportSourceView → ℕ → List Reply
replies_at told at = replies_from told.cluster told.workload told.events (opening_world told.cluster told.workload) (take at told.events)

-- the executed attempts of the first n of the events, in the serial order
abbrev pub rans_at : ReportSourceView → ℕ → List Ran
rans_at told at = filter_map (ran_of told.cluster told.workload told.events) (order_of (take at told.events))

-- an attempt with the outcome that a region keeps of it
abbrev pub ran_at : World → ℕ → TxnId → Option Ran
ran_at w region id = option_and_then (λ s. option_map (ran id s) (outcome_at w region id)) (submission_of w id)

-- whose an attempt is that a region has executed, and the outcome that the region keeps of it
pub record IsAttempt (w : World) (region : ℕ) (id : TxnId) (origin : Origin) (outcome : Outcome) : Type 0 where
  pub submission : Submission
  pub found : submission_of w id ≡ Some submission
  pub origin_is : submission ≡ attempt submission.txn origin
  pub outcome_is : outcome_at w region id ≡ Some outcome

-- a reply to a session for this attempt: the number of its call, and the outcome that the region keeps of it
pub record IsReply (w : World) (region : ℕ) (session : Bytes) (id : TxnId) (reply : Reply) : Type 0 where
  pub submission : Submission
  pub found : submission_of w id ≡ Some submission
  pub session_is : reply.session ≡ session
  pub call_is : reply.call ≡ submission.call
  pub outcome_is : outcome_at w region id ≡ Some reply.outcome

-- the attempts after one more event: it executes none for the first time, or this region has executed this one, which comes last
abbrev pub AddsRan : ReportSourceView → ℕ → Option (ℕ × TxnId) → Type 0
AddsRan told at None = rans_at told at ≡ rans_at told (at + 1)
AddsRan told at (Some (region, id)) =
    (region < told.cluster.regions) × IsExecutedAt (world_told told) region id
    × ((ran : Ran) → ran_at (world_told told) region id ≡ Some ran → rans_at told (at + 1) ≡ rans_at told at ++ ran ∷ [])

-- the replies after one more event: it answers nobody, or a session of this name for this attempt, which its region has executed
abbrev pub AddsReply : ReportSourceView → ℕ → Option (Bor Bytes × TxnId) → Type 0
AddsReply told at None = replies_at told at ≡ replies_at told (at + 1)
AddsReply told at (Some (session, id)) =
    (id.region < told.cluster.regions) × IsExecutedAt (world_told told) id.region id
    × ((reply : Reply) → IsReply (world_told told) id.region session.now id reply → replies_at told (at + 1) ≡ replies_at told at ++ reply ∷ [])
