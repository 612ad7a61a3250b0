use Rattle.std.proofs.Common.{◌≡◌, ◌*◌, map}
use Rattle.dt_gen.specs.Draws.{state_after}
use Rattle.dt_gen.specs.Load.{load_session, session_numbers}
use Rattle.dt_gen.proofs.load.deal.Given as goal

-- three numbers were drawn for each call so far, and the sessions have these calls
abbrev pub invariant-loop-number : goal.invariant-loop-number
invariant-loop-number l = (l.draws.state ≡ state_after (3 * l.number)) × (l.sessions ≡ map (load_session l.number) session_numbers)
