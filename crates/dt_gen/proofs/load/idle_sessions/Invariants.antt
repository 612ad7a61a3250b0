use Rattle.std.proofs.Common.{◌≡◌, map}
use Rattle.std.specs.List.{range_with_len}
use Rattle.dt_gen.specs.Load.{load_session}
use Rattle.dt_gen.proofs.load.idle_sessions.Given as goal

-- the sessions so far
abbrev pub invariant-loop-number : goal.invariant-loop-number
invariant-loop-number l = l.sessions.items ≡ map (load_session 0) (range_with_len 0 l.number)
