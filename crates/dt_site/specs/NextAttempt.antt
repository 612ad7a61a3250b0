-- What became of the attempt that a session waits for (`last_here`), and what the session submits next (`IsNextHere`), by what
-- its region keeps: its sessions, with where each stands, and the outcomes of what it executed. No world is mentioned: a world
-- of all regions reads both from this, and so does a node that sees only its own region. Read `Sessions` of dt_session before,
-- for the numbers alone (`IsNext`); read next: src/outcome.rt, the call.
use Rattle.std.specs.Prelude.{◌≡◌, ℕ, Option, Some, None, IsSome, option_and_then, option_map}
use Rattle.dt_access.specs.Clash.{Bytes}
use Rattle.dt_txn.specs.declared.Body.{Body}
use Rattle.dt_txn.specs.declared.Outcome.{Outcome}
use Rattle.dt_region.specs.Region.{RegionState, outcome_of}
use Rattle.dt_session.specs.Sessions.{IsNext, SessionsView, waits_of, wanted_of}
use Rattle.dt_session.specs.Step.{ranked_body}
use Rattle.dt_site.specs.declared.site.Origin.{Origin}

-- the outcome that a region has of the attempt that a session of this name waits for, if there are both
abbrev pub last_here : SessionsView → RegionState → Bytes → Option Outcome
last_here s r name = option_and_then (outcome_of r) (waits_of s name)

-- where the session of this name may go on, by what its region keeps, the call that comes next is there
abbrev pub HasNextCall : SessionsView → RegionState → Bytes → Type 0
HasNextCall s r name = (call attempt : ℕ) → IsNext s name (last_here s r name) (Some (call, attempt)) → IsSome (wanted_of s name call)

-- what the session of this name submits next, by what its region keeps: the call that comes next, under its numbers and
-- with its rank; none exactly where it may submit nothing
abbrev pub IsNextHere : SessionsView → RegionState → Bytes → Option (Origin × ℕ × Body) → Type 0
IsNextHere s r name None = IsNext s name (last_here s r name) None
IsNextHere s r name (Some (origin, rank, body)) =
    (origin.session ≡ name) × IsNext s name (last_here s r name) (Some (origin.call, origin.attempt)) × (option_map ranked_body (wanted_of s name origin.call) ≡ Some (rank, body))
