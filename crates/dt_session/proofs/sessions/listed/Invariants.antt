use Rattle.std.proofs.Common.{◌≡◌, ◌++◌}
use Rattle.dt_session.proofs.sessions.listed.Given as goal

abbrev pub invariant-loop-name : goal.invariant-loop-name
invariant-loop-name l = l.listed.entries ++ l.name-iterator ≡ l.fn.seats.entries
