use Rattle.std.proofs.Common.{◌≡◌, ◌-◌, length, drop, map}
use Rattle.dt_access.specs.Orders.{HasAscendingKeys}
use Rattle.dt_session.specs.Eager.{sessions_at}
use Rattle.dt_session.specs.Sessions.{idle_seat}
use Rattle.dt_session.proofs.sessions.Sessions.new.Given as goal

-- the seats are those of the sessions so far, which are the last ones
abbrev pub invariant-loop-session : goal.invariant-loop-session
invariant-loop-session l = (l.seats.entries ≡ map idle_seat (sessions_at l.region (drop (length l.workload.sessions - length l.yielded) l.workload.sessions))) × HasAscendingKeys l.seats.entries
