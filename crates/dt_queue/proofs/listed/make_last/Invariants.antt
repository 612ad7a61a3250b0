use Rattle.std.proofs.Common.{◌≡◌, ◌+◌, ◌-◌, ℕ, get_or, vec_len}
use Rattle.dt_queue.proofs.listed.make_last.Given as goal

abbrev pub invariant-loop-last : goal.invariant-loop-last
invariant-loop-last l = (r : ℕ) → get_or l.last.items r 0 ≡ get_or l.initial.last.items r 0

abbrev pub decreases-loop-last : goal.decreases-loop-last
decreases-loop-last l = l.row + 1 - vec_len l.last
