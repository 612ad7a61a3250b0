use Rattle.std.proofs.Common.{◌≡◌, ◌↔◌, ◌++◌, ℕ, List, length}
use Rattle.dt_eval.proofs.places.after.Given as goal

-- what follows what is left of the front in what is left of the bytes follows the front in the bytes
abbrev pub invariant-loop-first : goal.invariant-loop-first
invariant-loop-first l = (rest : List ℕ) → (l.fn.bytes ≡ l.fn.front ++ rest) ↔ (l.bytes ≡ l.front ++ rest)

abbrev pub decreases-loop-first : goal.decreases-loop-first
decreases-loop-first l = length l.front
