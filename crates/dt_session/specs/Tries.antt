-- When a session may go on. A session makes its calls one after another; a call that was stale at its region it may try
-- again, while it has had fewer attempts than the cluster allows. One learns here the two questions that are asked of a
-- session: whether it may submit an attempt (`MayTry`), and whether it may be answered (`MayEnd`). Both are stated over
-- plain numbers and the attempt that it waits for, so that rules 1 and 7 of a world (`Step`) and the sessions of one
-- region (`Sessions`) say the same. Read next: `Step`.
use Rattle.std.specs.Prelude.{◌≡◌, ◌<◌, ◌+◌, ℕ, Option, Some, None}
use Rattle.dt_txn.specs.declared.Body.{Body}
use Rattle.dt_txn.specs.declared.txn.Body.TheVariants.{Call, Move}
use Rattle.dt_txn.specs.declared.Outcome.{Outcome}
use Rattle.dt_txn.specs.declared.outcome.Outcome.TheVariants.{Gave, Aborted, Stale}
use Rattle.dt_txn.specs.Staleness.{IsStaleOutcome}
use Rattle.dt_workload.specs.declared.Ranked.{Ranked}
use Rattle.dt_workload.specs.declared.Wanted.{Wanted}
use Rattle.dt_workload.specs.declared.Wanted.TheVariants as wanted

-- the outcome is there, and it is Stale
abbrev pub IsStale : Option Outcome → Type 0
IsStale None = ⊥
IsStale (Some outcome) = IsStaleOutcome outcome

-- an attempt ends its call: its outcome is there, and it is not Stale or this was the last try
abbrev pub IsLast : ℕ → ℕ → Option Outcome → Type 0
IsLast tries attempt None = ⊥
IsLast tries attempt (Some (Gave values)) = Unit {0}
IsLast tries attempt (Some (Aborted cause)) = Unit {0}
IsLast tries attempt (Some (Stale unit had by)) = attempt ≡ tries

-- an attempt that a session waits for: its number in its call, and its outcome at the session's region, if it is there
pub record Awaited : Type 0 where
  pub attempt : ℕ
  pub outcome : Option Outcome

-- a session with n calls, of which m are answered: while it waits for nothing it may try its next call, if one is
-- left; while it waits for an attempt it may try again where that is Stale at its region and was not the last try
abbrev pub MayTry : ℕ → ℕ → ℕ → Option Awaited → Type 0
MayTry tries calls answered None = answered < calls
MayTry tries calls answered (Some awaited) = IsStale awaited.outcome × (awaited.attempt < tries)

-- a session may be answered where the attempt that it waits for ends its call at its region
abbrev pub MayEnd : ℕ → Option Awaited → Type 0
MayEnd tries None = ⊥
MayEnd tries (Some awaited) = IsLast tries awaited.attempt awaited.outcome

-- the number of the attempt that follows the one that is waited for: 1 for a new call, else one above
abbrev pub attempt_after : Option ℕ → ℕ
attempt_after None = 1
attempt_after (Some attempt) = attempt + 1

-- what a call or a move of a workload is to do
abbrev pub body_of : Wanted → Body
body_of (wanted.Call proc args) = Call proc args
body_of (wanted.Move key target) = Move key target

-- what a call or a move of a workload is to do, with the rank that the workload gives it
abbrev pub ranked_body : Ranked → ℕ × Body
ranked_body call = (call.rank, body_of call.wanted)
