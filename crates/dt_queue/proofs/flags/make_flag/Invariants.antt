use Rattle.std.proofs.Common.{◌≡◌, ◌+◌, ◌-◌, ℕ, false, get_or, vec_len}
use Rattle.dt_queue.proofs.flags.make_flag.Given as goal

abbrev pub invariant-loop-flags : goal.invariant-loop-flags
invariant-loop-flags l = (r : ℕ) → get_or l.flags.items r false ≡ get_or l.initial.flags.items r false

abbrev pub decreases-loop-flags : goal.decreases-loop-flags
decreases-loop-flags l = l.place + 1 - vec_len l.flags
