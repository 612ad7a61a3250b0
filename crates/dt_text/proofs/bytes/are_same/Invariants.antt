use Rattle.std.proofs.Common.{◌≡◌, length, nat_eq}
use Rattle.std.specs.Cmp.Lexicographic.{pointwise}
use Rattle.dt_text.proofs.bytes.are_same.Given as goal

abbrev pub invariant-loop-one : goal.invariant-loop-one
invariant-loop-one l = pointwise nat_eq l.left l.right ≡ pointwise nat_eq l.fn.left l.fn.right

abbrev pub decreases-loop-one : goal.decreases-loop-one
decreases-loop-one l = length l.left
