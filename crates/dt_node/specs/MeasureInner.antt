-- Why a turn ends. Sessions go on again and again in a turn, but each time one submits or is answered, less is left for it. One
-- learns here how much that is, as one number (`left_for`), which only proofs need. Read `Turn` for what a turn makes.
use Rattle.std.specs.Prelude.{◌+◌, ◌-◌, ◌*◌, ℕ, length, sum_by, Option, Some, None}
use Rattle.dt_session.specs.declared.sessions.Waiting.{Waiting}
use Rattle.dt_session.specs.Sessions.{SessionsView}

-- how much is left for a session with n calls that are not answered, in a cluster with this many tries
abbrev pub left_of : ℕ → ℕ → Option Waiting → ℕ
-- while it waits, the tries of this call that are left, its answer, and all of its other calls
left_of tries calls (Some waiting) = (calls - 1) * (tries + 2) + (tries - waiting.attempt) + 1
left_of tries calls None = calls * (tries + 2)

-- how much is left for all sessions of a region
abbrev pub left_for : SessionsView → ℕ
left_for s = sum_by (λ p. left_of s.tries (length p.1.calls - p.1.answered) p.1.waits) s.seats
